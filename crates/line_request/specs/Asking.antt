-- What lines ask of a live host.
use Rattle.std.specs.Prelude.{◌≡◌, ◌⊎◌, ◌++◌, ℕ, Bool, true, false, List, [], ◌∷◌, codes, Option, Some, None, option_map, option_and_then}
use Rattle.line_script.specs.Script.{Bytes}
use Rattle.line_script.specs.Names.{word_name}
use Rattle.line_script.specs.Words.{word_counter}
use Rattle.scp_types.specs.declared.event.Event.{Event}
use Rattle.scp_types.specs.declared.event.Event.TheVariants.{Deliver, Hear}
use Rattle.line_request.specs.declared.request.Request.{Request}
use Rattle.line_request.specs.declared.request.Request.TheVariants as request
use Rattle.line_request.specs.Lines.{slot_in}
use Rattle.line_request.specs.Requests.{IsRequested}
use Rattle.line_request.specs.Forms.{form_in, is_word}
use Rattle.line_request.specs.declared.ask.Ask.{Ask}
use Rattle.line_request.specs.declared.ask.Ask.TheVariants as ask
use Rattle.line_request.specs.declared.form.Form.{Form}
use Rattle.line_request.specs.declared.form.Form.TheVariants as form

-- an event is served but for a hearing, which follows what was emitted without a line
abbrev pub asked_by_event : ℕ → Event → Option (ℕ × Ask)
asked_by_event g (Hear i u from kind k) = None
asked_by_event g e = Some (g, ask.Serve e)

-- what a line of scripts asks of a live host: all that its request is, but for hearings and slots that settle
abbrev pub asked_by : ℕ × Request → Option (ℕ × Ask)
asked_by (g, request.Declare d) = Some (g, ask.Declare d)
asked_by (g, request.Apply e) = asked_by_event g e
asked_by (g, request.Settle i) = None

abbrev pub for_all_by_event : ℕ → Event → Option (ℕ × Ask)
for_all_by_event g (Deliver u bytes) = Some (g, ask.ForAll bytes)
for_all_by_event g e = None

-- what a delivery to one node asks for, with the bytes for all nodes
abbrev pub for_all_by : ℕ × Request → Option (ℕ × Ask)
for_all_by (g, request.Declare d) = None
for_all_by (g, request.Apply e) = for_all_by_event g e
for_all_by (g, request.Settle i) = None

-- the fields are a line of scripts, if they are one, whose request asks for this
abbrev pub IsOfScript : (ℕ × Request → Option (ℕ × Ask)) → List Bytes → Option (ℕ × Ask) → Type 0
IsOfScript by fields asked = (r : Option (ℕ × Request)) × IsRequested fields r × (asked ≡ option_and_then by r)

-- what a line asks for without its last word, if that is `served`; any other asks for nothing
abbrev pub IsServedNet : Bool → List Bytes → Option (ℕ × Ask) → Type 0
IsServedNet true before asked = IsOfScript asked_by before asked
IsServedNet false before asked = asked ≡ None

-- the line `net N events E bytes B slots S served` asks for what it does without its last word
abbrev pub IsNet : List Bytes → Option (ℕ × Ask) → Type 0
IsNet fields asked =
    ((fields ≡ []) × (asked ≡ None))
    ⊎ ((before : List Bytes) × (last : Bytes) × (fields ≡ before ++ last ∷ [])
    × IsServedNet (is_word last (codes "served")) before asked)

-- the line `deliver N * HEX` or `say N * FROM I SLICES STATEMENT` asks for all nodes what it asks for one of any name
abbrev pub IsForAll : List Bytes → Option (ℕ × Ask) → Type 0
IsForAll (w ∷ g ∷ star ∷ more) asked = IsOfScript for_all_by (w ∷ g ∷ codes "A" ∷ more) asked
IsForAll fields asked = asked ≡ None

-- the line `drop N` asks that the network is taken back
abbrev pub dropped_in : List Bytes → Option (ℕ × Ask)
dropped_in (w ∷ number ∷ []) = option_map (λ g. (g, ask.Drop)) (word_counter number)
dropped_in fields = None

-- the line `left N` asks what is left of the budgets
abbrev pub left_in : List Bytes → Option (ℕ × Ask)
left_in (w ∷ number ∷ []) = option_map (λ g. (g, ask.Left)) (word_counter number)
left_in fields = None

-- what is asked of the node and the slot that two words spell
abbrev pub shown_of : ℕ → Bytes → Bytes → Option (ℕ × Ask)
shown_of g slot node =
    option_and_then (λ i. option_map (λ u. (g, ask.Show i u)) (word_name node)) (slot_in slot)

-- the line `show N I NODE` asks for the node at the slot
abbrev pub shown_in : List Bytes → Option (ℕ × Ask)
shown_in (w ∷ number ∷ slot ∷ node ∷ []) = option_and_then (λ g. shown_of g slot node) (word_counter number)
shown_in fields = None

abbrev pub IsAskedAs : Form → List Bytes → Option (ℕ × Ask) → Type 0
IsAskedAs form.Net fields asked = IsNet fields asked
IsAskedAs form.ForAll fields asked = IsForAll fields asked
IsAskedAs form.Drop fields asked = asked ≡ dropped_in fields
IsAskedAs form.Left fields asked = asked ≡ left_in fields
IsAskedAs form.Show fields asked = asked ≡ shown_in fields
IsAskedAs form.Script fields asked = IsOfScript asked_by fields asked

-- a line with these fields asks for this of the network of a number; or it is bad
abbrev pub IsAskedOf : List Bytes → Option (ℕ × Ask) → Type 0
IsAskedOf fields asked = IsAskedAs (form_in fields) fields asked
