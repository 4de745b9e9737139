-- Which node a command asks about, and in which form.
use Rattle.std.specs.Prelude.{◌^◌, codes, Option, Some, None, option_and_then, option_map, if◌then◌else◌}
use Rattle.std.specs.Str.{bytes_eq}
use Rattle.line_script.specs.Names.{word_name}
use Rattle.line_script.specs.Words.{word_number}
use Rattle.scphost_words.specs.Words.{Text}
use Rattle.scp_types.specs.declared.subject.Subject.{Subject}
use Rattle.scphost_words.specs.declared.subject.Format.{Format}
use Rattle.scphost_words.specs.declared.subject.Format.TheVariants as format

-- the subject that three words name: the number of a network, a slot and the name of a node, as in scripts
abbrev pub subject_in : Text → Text → Text → Option Subject
subject_in net slot node =
    option_and_then (λ g. option_and_then (λ i. option_map (λ v. record { net = g; slot = i; node = v }) (word_name node))
    (word_number (2 ^ 64) slot)) (word_number (2 ^ 32) net)

-- the form that a word names
abbrev pub format_in : Text → Option Format
format_in word = if bytes_eq word (codes "text") then Some format.Text
    else (if bytes_eq word (codes "dot") then Some format.Dot
    else (if bytes_eq word (codes "svg") then Some format.Svg else None))

-- the form that is asked for; without one it is text
abbrev pub format_or_text : Option Format → Format
format_or_text (Some f) = f
format_or_text None = format.Text
