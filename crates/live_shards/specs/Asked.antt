-- Which network a line names.
use Rattle.std.specs.Prelude.{◌≡◌, ◌==◌, ℕ, Bool, true, false, List, [], ◌∷◌, codes, Option, Some, option_and_then, slice_get}
use Rattle.std.specs.List.{slice_split}
use Rattle.line_script.specs.Script.{Bytes}
use Rattle.line_script.specs.Words.{word_counter}
use Rattle.scp_spec.specs.Networks.{Budgets}
use Rattle.line_request.specs.Asking.{IsAskedOf}
use Rattle.line_request.specs.Forms.{is_word}
use Rattle.line_request.specs.declared.ask.Ask.{Ask}
use Rattle.line_request.specs.declared.ask.Ask.TheVariants as ask
use Rattle.line_request.specs.declared.request.Declaration.TheVariants as declaration

-- what stands between the spaces (32) of a line
abbrev pub cut_at_spaces : Bytes → List Bytes
cut_at_spaces line = slice_split (λ byte. byte == 32) line

-- the number that the second field spells
abbrev pub network_in : List Bytes → Option ℕ
network_in fields = option_and_then word_counter (slice_get fields 1)

-- what a line asks for, it asks of the network whose number is its second field
abbrev pub AskedNetworksAreNamed : Type 0
AskedNetworksAreNamed = (fields : List Bytes) (g : ℕ) (asked : Ask) → IsAskedOf fields (Some (g, asked)) → network_in fields ≡ Some g

-- the first field is `net`
abbrev pub is_net : List Bytes → Bool
is_net [] = false
is_net (word ∷ fields) = is_word word (codes "net")

-- only a line that begins with `net` declares a network
abbrev pub OnlyNetsDeclareNetworks : Type 0
OnlyNetsDeclareNetworks =
    (fields : List Bytes) (g : ℕ) (budgets : Budgets) → IsAskedOf fields (Some (g, ask.Declare (declaration.Net budgets)))
    → is_net fields ≡ true

-- a line that begins with `net` asks for nothing but that a network is declared
abbrev pub NetsDeclareNetworks : Type 0
NetsDeclareNetworks =
    (fields : List Bytes) (g : ℕ) (asked : Ask) → is_net fields ≡ true → IsAskedOf fields (Some (g, asked))
    → (budgets : Budgets) × (asked ≡ ask.Declare (declaration.Net budgets))
