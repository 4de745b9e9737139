-- What a line asks for, it asks of the network that it names.
use Rattle.std.specs.Prelude.{◌≡◌, ◌++◌, ℕ, Bool, true, false, List, [], ◌∷◌, codes, Option, Some, None, option_map, option_and_then}
use Rattle.std.proofs.Common.{◌∙◌, inl, inr, sym, ap}
use Rattle.line_script.specs.Script.{Bytes}
use Rattle.line_script.specs.Words.{word_counter}
use Rattle.line_script.specs.Names.{word_name}
use Rattle.scp_types.specs.declared.event.Event.{Event}
use Rattle.scp_types.specs.declared.event.Event.TheVariants as event
use Rattle.line_request.specs.Asking.{IsAskedAs, IsForAll, IsNet, IsOfScript, IsServedNet, asked_by, asked_by_event, dropped_in, for_all_by, for_all_by_event, left_in, shown_in, shown_of}
use Rattle.line_request.specs.Forms.{is_word}
use Rattle.line_request.specs.Lines.{slot_in, verb_in}
use Rattle.line_request.specs.Requests.{IsRequestOf, IsRequested}
use Rattle.line_request.specs.declared.ask.Ask.{Ask}
use Rattle.line_request.specs.declared.ask.Ask.TheVariants as ask
use Rattle.line_request.specs.declared.form.Form.{Form}
use Rattle.line_request.specs.declared.form.Form.TheVariants as form
use Rattle.line_request.specs.declared.request.Request.{Request}
use Rattle.line_request.specs.declared.request.Request.TheVariants as request
use Rattle.line_request.specs.declared.verbs.Verb.{Verb}
use Rattle.live_shards.specs.Asked.{network_in}

-- ---- pairs
abbrev number_of : {X : Type 0} → Option (ℕ × X) → ℕ
number_of None = 0
number_of (Some p) = p.0

same_number : {X : Type 0} (g h : ℕ) (x y : X) → ◌≡◌ {A = Option (ℕ × X)} (Some (g, x)) (Some (h, y)) → g ≡ h
same_number g h x y is = ap number_of is

-- ---- the number of a line
-- what is asked of the network of a request is asked of its number
abbrev KeepsNumbers : (ℕ × Request → Option (ℕ × Ask)) → Type 0
KeepsNumbers asks = (g h : ℕ) (r : Request) (asked : Ask) → Some (h, asked) ≡ asks (g, r) → h ≡ g

asked_keeps : KeepsNumbers asked_by
asked_keeps g h (request.Declare d) asked is = same_number h g asked (ask.Declare d) is
asked_keeps g h (request.Apply e) asked is = events e is
  where
    events : (e : Event) → Some (h, asked) ≡ asked_by_event g e → h ≡ g
    events (event.OpenSlot i) is = ap number_of is
    events (event.CloseSlot i) is = ap number_of is
    events (event.Propose i u x) is = ap number_of is
    events (event.Deliver u bytes) is = ap number_of is
    events (event.Hear i u from kind k) is = absurd (cc)
    events (event.NominationTimer i u r) is = ap number_of is
    events (event.BallotTimer i u n) is = ap number_of is
    events (event.Reslice i u q) is = ap number_of is
asked_keeps g h (request.Settle i) asked is = absurd (cc)

for_all_keeps : KeepsNumbers for_all_by
for_all_keeps g h (request.Declare d) asked is = absurd (cc)
for_all_keeps g h (request.Apply e) asked is = events e is
  where
    events : (e : Event) → Some (h, asked) ≡ for_all_by_event g e → h ≡ g
    events (event.OpenSlot i) is = absurd (cc)
    events (event.CloseSlot i) is = absurd (cc)
    events (event.Propose i u x) is = absurd (cc)
    events (event.Deliver u bytes) is = ap number_of is
    events (event.Hear i u from kind k) is = absurd (cc)
    events (event.NominationTimer i u r) is = absurd (cc)
    events (event.BallotTimer i u n) is = absurd (cc)
    events (event.Reslice i u q) is = absurd (cc)
for_all_keeps g h (request.Settle i) asked is = absurd (cc)

requested_of : (v : Option Verb) (number : Option ℕ) (fields : List Bytes) (g : ℕ) (r : Request) → IsRequestOf v number fields (Some (g, r)) → number ≡ Some g
requested_of None number fields g r is = absurd (cc)
requested_of (Some v) None fields g r is = absurd (cc)
requested_of (Some v) (Some h) fields g r (None, asks, is) = absurd (cc)
requested_of (Some v) (Some h) fields g r (Some x, asks, is) = ap Some (sym (same_number g h r x is))

requested_named : (fields : List Bytes) (g : ℕ) (r : Request) → IsRequested fields (Some (g, r)) → network_in fields ≡ Some g
requested_named [] g r is = absurd (cc)
requested_named (word ∷ []) g r is = absurd (cc)
requested_named (word ∷ number ∷ fields) g r is = requested_of (verb_in word) (word_counter number) fields g r is

script_named : (asks : ℕ × Request → Option (ℕ × Ask)) → KeepsNumbers asks → (fields : List Bytes) (g : ℕ) (asked : Ask) → IsOfScript asks fields (Some (g, asked)) → network_in fields ≡ Some g
script_named asks keeps fields g asked (None, requested, is) = absurd (cc)
script_named asks keeps fields g asked (Some (h, r), requested, is) = requested_named fields h r requested ∙ ap Some (sym (keeps h g r asked is))

-- a field behind the others does not count, where there is a number
named_before : (before : List Bytes) (last : Bytes) (g : ℕ) → network_in before ≡ Some g → network_in (before ++ last ∷ []) ≡ Some g
named_before [] last g is = absurd (cc)
named_before (word ∷ []) last g is = absurd (cc)
named_before (word ∷ number ∷ fields) last g is = is

net_named : (fields : List Bytes) (g : ℕ) (asked : Ask) → IsNet fields (Some (g, asked)) → network_in fields ≡ Some g
net_named fields g asked (inl none) = let is = none.1 in absurd (cc)
net_named fields g asked (inr (before, last, is, served)) = ap network_in is ∙ named_before before last g (by (is_word last (codes "served")) served)
  where
    by : (is_served : Bool) → IsServedNet is_served before (Some (g, asked)) → network_in before ≡ Some g
    by true script = script_named asked_by asked_keeps before g asked script
    by false none = absurd (cc)

for_all_named : (fields : List Bytes) (g : ℕ) (asked : Ask) → IsForAll fields (Some (g, asked)) → network_in fields ≡ Some g
for_all_named [] g asked is = absurd (cc)
for_all_named (w ∷ []) g asked is = absurd (cc)
for_all_named (w ∷ number ∷ []) g asked is = absurd (cc)
for_all_named (w ∷ number ∷ star ∷ more) g asked is = script_named for_all_by for_all_keeps (w ∷ number ∷ codes "A" ∷ more) g asked is

numbered : {X : Type 0} (of : ℕ → Option (ℕ × X)) → ((h g : ℕ) (x : X) → Some (g, x) ≡ of h → g ≡ h)
    → (number : Option ℕ) (g : ℕ) (x : X) → Some (g, x) ≡ option_and_then of number → number ≡ Some g
numbered of keeps None g x is = absurd (cc)
numbered of keeps (Some h) g x is = ap Some (sym (keeps h g x is))

mapped : (asked : Ask) (number : Option ℕ) (g : ℕ) (x : Ask) → ◌≡◌ {A = Option (ℕ × Ask)} (Some (g, x)) (option_map (λ h. (h, asked)) number) → number ≡ Some g
mapped asked None g x is = absurd (cc)
mapped asked (Some h) g x is = ap Some (sym (same_number g h x asked is))

drop_named : (fields : List Bytes) (g : ℕ) (asked : Ask) → Some (g, asked) ≡ dropped_in fields → network_in fields ≡ Some g
drop_named [] g asked is = absurd (cc)
drop_named (w ∷ []) g asked is = absurd (cc)
drop_named (w ∷ number ∷ []) g asked is = mapped ask.Drop (word_counter number) g asked is
drop_named (w ∷ number ∷ x ∷ more) g asked is = absurd (cc)

left_named : (fields : List Bytes) (g : ℕ) (asked : Ask) → Some (g, asked) ≡ left_in fields → network_in fields ≡ Some g
left_named [] g asked is = absurd (cc)
left_named (w ∷ []) g asked is = absurd (cc)
left_named (w ∷ number ∷ []) g asked is = mapped ask.Left (word_counter number) g asked is
left_named (w ∷ number ∷ x ∷ more) g asked is = absurd (cc)

shown_keeps : (slot node : Bytes) (h g : ℕ) (asked : Ask) → Some (g, asked) ≡ shown_of h slot node → g ≡ h
shown_keeps slot node h g asked is = by (slot_in slot) (word_name node) is
  where
    by : (i u : Option ℕ) → ◌≡◌ {A = Option (ℕ × Ask)} (Some (g, asked)) (option_and_then (λ i. option_map (λ u. (h, ask.Show i u)) u) i) → g ≡ h
    by None u is = absurd (cc)
    by (Some i) None is = absurd (cc)
    by (Some i) (Some u) is = same_number g h asked (ask.Show i u) is

show_named : (fields : List Bytes) (g : ℕ) (asked : Ask) → Some (g, asked) ≡ shown_in fields → network_in fields ≡ Some g
show_named [] g asked is = absurd (cc)
show_named (w ∷ []) g asked is = absurd (cc)
show_named (w ∷ number ∷ []) g asked is = absurd (cc)
show_named (w ∷ number ∷ slot ∷ []) g asked is = absurd (cc)
show_named (w ∷ number ∷ slot ∷ node ∷ []) g asked is = numbered (λ h. shown_of h slot node) (shown_keeps slot node) (word_counter number) g asked is
show_named (w ∷ number ∷ slot ∷ node ∷ x ∷ more) g asked is = absurd (cc)

-- what a line of a form asks for, it asks of the network that it names
pub named_by_form : (f : Form) (fields : List Bytes) (g : ℕ) (asked : Ask) → IsAskedAs f fields (Some (g, asked)) → network_in fields ≡ Some g
named_by_form form.Net fields g asked is = net_named fields g asked is
named_by_form form.ForAll fields g asked is = for_all_named fields g asked is
named_by_form form.Drop fields g asked is = drop_named fields g asked is
named_by_form form.Left fields g asked is = left_named fields g asked is
named_by_form form.Show fields g asked is = show_named fields g asked is
named_by_form form.Script fields g asked is = script_named asked_by asked_keeps fields g asked is
