-- Which words ask for help, and which answers are help.
use Rattle.std.specs.Prelude.{◌≡◌, ◌==◌, ◌&&◌, ◌||◌, ℕ, Bool, true, false, List, [], ◌∷◌, codes, ⊤}
use Rattle.std.specs.Prelude.{Option, Some, None, is_some, option_map, if◌then◌else◌}
use Rattle.std.specs.Str.{bytes_eq}
use Rattle.scphost_words.specs.Commands.{command_in}
use Rattle.scphost_words.specs.Words.{Text}
use Rattle.scphost_words.specs.declared.call.Usage.{Usage}
use Rattle.scphost_words.specs.declared.call.Usage.TheVariants.{Help, Bad, NoMemory}
use Rattle.scphost_words.specs.declared.help.Page.{Page}
use Rattle.scphost_words.specs.declared.help.Page.TheVariants as page

-- the word is a hyphen (45) with this letter behind it, and with any further letters
abbrev pub has_letter : ℕ → Text → Bool
has_letter letter [] = false
has_letter letter (x ∷ []) = false
has_letter letter (x ∷ y ∷ more) = x == 45 && y == letter

-- the word asks for help: `--help` or `-h`
abbrev pub asks_help : Text → Bool
asks_help word = bytes_eq word (codes "--help") || has_letter 104 word

-- the word asks for the version: `--version` or `-V`
abbrev pub asks_version : Text → Bool
asks_version word = bytes_eq word (codes "--version") || has_letter 86 word

-- some word in front of the first `--` asks for help
abbrev pub ask_help : List Text → Bool
ask_help [] = false
ask_help (word ∷ rest) = if bytes_eq word (codes "--") then false else (asks_help word || ask_help rest)

-- the page that the words behind `help` ask for
abbrev pub page_named : List Text → Option Page
page_named [] = Some page.Whole
page_named (name ∷ []) =
    if bytes_eq name (codes "help") then Some page.Help else option_map page.Of (command_in name)
page_named (name ∷ word ∷ more) = None

-- the page of help that the words ask for: by `help`, or by an option, as the first word or behind a command
abbrev pub page_in : List Text → Option Page
page_in [] = None
page_in (name ∷ rest) =
    if asks_help name then Some page.Whole
    else (if asks_version name then Some page.Version
    else (if bytes_eq name (codes "help") then page_named rest
    else (if ask_help rest then option_map page.Of (command_in name) else None)))

-- the words ask for help or for the version
abbrev pub ask_for_help : List Text → Bool
ask_for_help words = is_some (page_in words)

-- what words get that are not taken as a call: help, if they ask for it, and else what is wrong with them, unless it is
-- out of memory
abbrev pub IsUsage : List Text → Usage → Type 0
IsUsage words (Help text) = ask_for_help words ≡ true
IsUsage words (Bad text) = ask_for_help words ≡ false
IsUsage words NoMemory = ⊤
