-- A line that declares a network begins with `net`.
use Rattle.std.specs.Prelude.{◌≡◌, ◌++◌, ◌||◌, cond, ℕ, Bool, true, false, nat_eq, List, [], ◌∷◌, codes, Option, Some, None, option_map, option_and_then}
use Rattle.std.proofs.Common.{◌∙◌, inl, inr, refl, sym, ap, true≢false}
use lib.Pointwise.{pointwise}
use Rattle.line_script.specs.Script.{Bytes}
use Rattle.line_script.specs.Words.{word_counter}
use Rattle.line_script.specs.Names.{word_name}
use Rattle.scp_spec.specs.Rosters.{Shares}
use Rattle.scp_types.specs.declared.event.Event.{Event}
use Rattle.scp_types.specs.declared.event.Event.TheVariants as event
use Rattle.line_request.specs.Asking.{IsAskedAs, IsForAll, IsNet, IsOfScript, IsServedNet, asked_by, asked_by_event, dropped_in, for_all_by, for_all_by_event, left_in, shown_in}
use Rattle.line_request.specs.Forms.{is_word}
use Rattle.line_request.specs.Lines.{meaning_in, slot_in, verb_in, verbs}
use Rattle.line_request.specs.Requests.{AsksNode, AsksRoster, IsNode, IsRequest, IsRequestOf, IsRequested, IsReserved, settling_in, shares_in}
use Rattle.line_request.specs.declared.ask.Ask.{Ask}
use Rattle.line_request.specs.declared.ask.Ask.TheVariants as ask
use Rattle.line_request.specs.declared.form.Form.{Form}
use Rattle.line_request.specs.declared.form.Form.TheVariants as form
use Rattle.line_request.specs.declared.request.Declaration.TheVariants as declaration
use Rattle.line_request.specs.declared.request.Request.{Request}
use Rattle.line_request.specs.declared.request.Request.TheVariants as request
use Rattle.line_request.specs.declared.verbs.Verb.{Verb}
use Rattle.line_request.specs.declared.verbs.Verb.TheVariants as verb
use Rattle.live_shards.specs.Asked.{is_net}

-- ---- pairs
abbrev what_of : {X : Type 0} → X → Option (ℕ × X) → X
what_of d None = d
what_of d (Some p) = p.1

same_what : {X : Type 0} (g h : ℕ) (x y : X) → ◌≡◌ {A = Option (ℕ × X)} (Some (g, x)) (Some (h, y)) → x ≡ y
same_what g h x y is = ap (what_of x) is

-- ---- lines that declare networks
abbrev is_net_verb : Verb → Bool
is_net_verb verb.Net = true
is_net_verb v = false

abbrev has_net : List (Bytes × Verb) → Bool
has_net [] = false
has_net (e ∷ es) = is_net_verb e.1 || has_net es

abbrev verb_of : Option Verb → Verb
verb_of None = verb.Node
verb_of (Some v) = v

found_there : (table : List (Bytes × Verb)) (word : Bytes) → meaning_in table word ≡ Some verb.Net → has_net table ≡ true
found_there [] word is = absurd (cc)
found_there (e ∷ es) word is = by (pointwise nat_eq word e.0) is (found_there es word)
  where
    or : (s t : Bool) → t ≡ true → (s || t) ≡ true
    or true t is = refl
    or false t is = is

    first : (v : Verb) → v ≡ verb.Net → (is_net_verb v || has_net es) ≡ true
    first v is = ap (λ v. is_net_verb v || has_net es) is

    by : (here : Bool) → cond here (Some e.1) (meaning_in es word) ≡ Some verb.Net → (meaning_in es word ≡ Some verb.Net → has_net es ≡ true) → has_net (e ∷ es) ≡ true
    by true is more = first e.1 (ap verb_of is)
    by false is more = or (is_net_verb e.1) (has_net es) (more is)

abbrev others : List (Bytes × Verb) → List (Bytes × Verb)
others [] = []
others (e ∷ es) = es

net_verb : (word : Bytes) → verb_in word ≡ Some verb.Net → is_word word (codes "net") ≡ true
net_verb word is = by (is_word word (codes "net")) is
  where
    by : (here : Bool) → cond here (Some verb.Net) (meaning_in (others verbs) word) ≡ Some verb.Net → here ≡ true
    by true is = refl
    by false is = absurd (true≢false (sym (found_there (others verbs) word is)))

-- the request declares a network
abbrev is_net_request : Request → Bool
is_net_request (request.Declare (declaration.Net b)) = true
is_net_request r = false

node_declares_none : (fields : List Bytes) (r : Request) → AsksNode fields r → is_net_request r ≡ false
node_declares_none [] r asks = absurd asks
node_declares_none (name ∷ []) r asks = absurd asks
node_declares_none (name ∷ slices ∷ []) r asks = by (word_name name) asks
  where
    by : (u : Option ℕ) → IsNode u slices r → is_net_request r ≡ false
    by None asks = absurd asks
    by (Some u) (q, are, is) = ap is_net_request is
node_declares_none (name ∷ slices ∷ x ∷ more) r asks = absurd asks

roster_declares_none : (fields : List Bytes) (r : Request) → AsksRoster fields r → is_net_request r ≡ false
roster_declares_none fields r asks = by (shares_in fields) asks
  where
    by : (w : Option (Shares × List Bytes)) → IsReserved w r → is_net_request r ≡ false
    by None asks = absurd asks
    by (Some w) (d, names, shares, is) = ap is_net_request is

abbrev request_of : Option Request → Request
request_of None = request.Settle 0
request_of (Some r) = r

settling_declares_none : (fields : List Bytes) (r : Request) → Some r ≡ settling_in fields → is_net_request r ≡ false
settling_declares_none [] r is = absurd (cc)
settling_declares_none (i ∷ []) r is = by (slot_in i) is
  where
    by : (slot : Option ℕ) → Some r ≡ option_map (λ slot. request.Settle slot) slot → is_net_request r ≡ false
    by None is = absurd (cc)
    by (Some slot) is = ap (λ o. is_net_request (request_of o)) is
settling_declares_none (i ∷ x ∷ more) r is = absurd (cc)

event_declares_none : (e : Option Event) (r : Request) → Some r ≡ option_map (λ e. request.Apply e) e → is_net_request r ≡ false
event_declares_none None r is = absurd (cc)
event_declares_none (Some e) r is = ap (λ o. is_net_request (request_of o)) is

verb_declares : (v : Verb) (fields : List Bytes) (r : Request) → IsRequest v fields (Some r) → is_net_request r ≡ true → Some v ≡ Some verb.Net
verb_declares verb.Net fields r asks net = refl
verb_declares verb.Node fields r asks net = absurd (true≢false (sym net ∙ node_declares_none fields r asks))
verb_declares verb.Roster fields r asks net = absurd (true≢false (sym net ∙ roster_declares_none fields r asks))
verb_declares verb.Settle fields r asks net = absurd (true≢false (sym net ∙ settling_declares_none fields r asks))
verb_declares (verb.Event v) fields r (e, asks, is) net = absurd (true≢false (sym net ∙ event_declares_none e r is))

requested_net : (v : Option Verb) (number : Option ℕ) (fields : List Bytes) (g : ℕ) (r : Request) → IsRequestOf v number fields (Some (g, r)) → is_net_request r ≡ true → v ≡ Some verb.Net
requested_net None number fields g r is net = absurd (cc)
requested_net (Some v) None fields g r is net = absurd (cc)
requested_net (Some v) (Some h) fields g r (None, asks, is) net = absurd (cc)
requested_net (Some v) (Some h) fields g r (Some x, asks, is) net = verb_declares v fields x asks (sym (ap is_net_request (same_what g h r x is)) ∙ net)

line_of_net : (fields : List Bytes) (g : ℕ) (r : Request) → IsRequested fields (Some (g, r)) → is_net_request r ≡ true → is_net fields ≡ true
line_of_net [] g r is net = absurd (cc)
line_of_net (word ∷ []) g r is net = absurd (cc)
line_of_net (word ∷ number ∷ fields) g r is net = net_verb word (requested_net (verb_in word) (word_counter number) fields g r is net)

-- what is asked for declares a network
abbrev pub is_net_ask : Ask → Bool
is_net_ask (ask.Declare (declaration.Net b)) = true
is_net_ask asked = false

abbrev asked_of : Option (ℕ × Ask) → Ask
asked_of None = ask.Drop
asked_of (Some p) = p.1

asked_by_net : (g h : ℕ) (r : Request) (asked : Ask) → Some (g, asked) ≡ asked_by (h, r) → is_net_ask asked ≡ true → is_net_request r ≡ true
asked_by_net g h (request.Declare (declaration.Net b)) asked is net = refl
asked_by_net g h (request.Declare (declaration.Node u q)) asked is net = absurd (true≢false (sym net ∙ ap (λ o. is_net_ask (asked_of o)) is))
asked_by_net g h (request.Declare (declaration.Roster d)) asked is net = absurd (true≢false (sym net ∙ ap (λ o. is_net_ask (asked_of o)) is))
asked_by_net g h (request.Apply e) asked is net = absurd (true≢false (sym net ∙ events e is))
  where
    events : (e : Event) → Some (g, asked) ≡ asked_by_event h e → is_net_ask asked ≡ false
    events (event.OpenSlot i) is = ap (λ o. is_net_ask (asked_of o)) is
    events (event.CloseSlot i) is = ap (λ o. is_net_ask (asked_of o)) is
    events (event.Propose i u x) is = ap (λ o. is_net_ask (asked_of o)) is
    events (event.Deliver u bytes) is = ap (λ o. is_net_ask (asked_of o)) is
    events (event.Hear i u from kind k) is = absurd (cc)
    events (event.NominationTimer i u r) is = ap (λ o. is_net_ask (asked_of o)) is
    events (event.BallotTimer i u n) is = ap (λ o. is_net_ask (asked_of o)) is
    events (event.Reslice i u q) is = ap (λ o. is_net_ask (asked_of o)) is
asked_by_net g h (request.Settle i) asked is net = absurd (cc)

for_all_no_net : (g h : ℕ) (r : Request) (asked : Ask) → Some (g, asked) ≡ for_all_by (h, r) → is_net_ask asked ≡ false
for_all_no_net g h (request.Declare d) asked is = absurd (cc)
for_all_no_net g h (request.Apply e) asked is = events e is
  where
    events : (e : Event) → Some (g, asked) ≡ for_all_by_event h e → is_net_ask asked ≡ false
    events (event.OpenSlot i) is = absurd (cc)
    events (event.CloseSlot i) is = absurd (cc)
    events (event.Propose i u x) is = absurd (cc)
    events (event.Deliver u bytes) is = ap (λ o. is_net_ask (asked_of o)) is
    events (event.Hear i u from kind k) is = absurd (cc)
    events (event.NominationTimer i u r) is = absurd (cc)
    events (event.BallotTimer i u n) is = absurd (cc)
    events (event.Reslice i u q) is = absurd (cc)
for_all_no_net g h (request.Settle i) asked is = absurd (cc)

script_of_net : (fields : List Bytes) (g : ℕ) (asked : Ask) → IsOfScript asked_by fields (Some (g, asked)) → is_net_ask asked ≡ true → is_net fields ≡ true
script_of_net fields g asked (None, requested, is) net = absurd (cc)
script_of_net fields g asked (Some (h, r), requested, is) net = line_of_net fields h r requested (asked_by_net g h r asked is net)

net_before : (before : List Bytes) (last : Bytes) → is_net before ≡ true → is_net (before ++ last ∷ []) ≡ true
net_before [] last is = absurd (true≢false (sym is))
net_before (word ∷ fields) last is = is

net_of_net : (fields : List Bytes) (g : ℕ) (asked : Ask) → IsNet fields (Some (g, asked)) → is_net_ask asked ≡ true → is_net fields ≡ true
net_of_net fields g asked (inl none) net = let is = none.1 in absurd (cc)
net_of_net fields g asked (inr (before, last, is, served)) net = ap is_net is ∙ net_before before last (by (is_word last (codes "served")) served)
  where
    by : (is_served : Bool) → IsServedNet is_served before (Some (g, asked)) → is_net before ≡ true
    by true script = script_of_net before g asked script net
    by false none = absurd (cc)

all_of_script : (fields : List Bytes) (g : ℕ) (asked : Ask) → IsOfScript for_all_by fields (Some (g, asked)) → is_net_ask asked ≡ false
all_of_script fields g asked (None, requested, is) = absurd (cc)
all_of_script fields g asked (Some (h, r), requested, is) = for_all_no_net g h r asked is

all_no_net : (fields : List Bytes) (g : ℕ) (asked : Ask) → IsForAll fields (Some (g, asked)) → is_net_ask asked ≡ false
all_no_net [] g asked is = absurd (cc)
all_no_net (w ∷ []) g asked is = absurd (cc)
all_no_net (w ∷ number ∷ []) g asked is = absurd (cc)
all_no_net (w ∷ number ∷ star ∷ more) g asked is = all_of_script (w ∷ number ∷ codes "A" ∷ more) g asked is

mapped_no_net : (o : Ask) → is_net_ask o ≡ false → (number : Option ℕ) (g : ℕ) (asked : Ask) → ◌≡◌ {A = Option (ℕ × Ask)} (Some (g, asked)) (option_map (λ h. (h, o)) number) → is_net_ask asked ≡ false
mapped_no_net o other None g asked is = absurd (cc)
mapped_no_net o other (Some h) g asked is = ap (λ p. is_net_ask (asked_of p)) is ∙ other

drop_no_net : (fields : List Bytes) (g : ℕ) (asked : Ask) → Some (g, asked) ≡ dropped_in fields → is_net_ask asked ≡ false
drop_no_net [] g asked is = absurd (cc)
drop_no_net (w ∷ []) g asked is = absurd (cc)
drop_no_net (w ∷ number ∷ []) g asked is = mapped_no_net ask.Drop refl (word_counter number) g asked is
drop_no_net (w ∷ number ∷ x ∷ more) g asked is = absurd (cc)

left_no_net : (fields : List Bytes) (g : ℕ) (asked : Ask) → Some (g, asked) ≡ left_in fields → is_net_ask asked ≡ false
left_no_net [] g asked is = absurd (cc)
left_no_net (w ∷ []) g asked is = absurd (cc)
left_no_net (w ∷ number ∷ []) g asked is = mapped_no_net ask.Left refl (word_counter number) g asked is
left_no_net (w ∷ number ∷ x ∷ more) g asked is = absurd (cc)

shown_no_net : (number i u : Option ℕ) (g : ℕ) (asked : Ask) → ◌≡◌ {A = Option (ℕ × Ask)} (Some (g, asked)) (option_and_then (λ h. option_and_then (λ i. option_map (λ u. (h, ask.Show i u)) u) i) number) → is_net_ask asked ≡ false
shown_no_net None i u g asked is = absurd (cc)
shown_no_net (Some h) None u g asked is = absurd (cc)
shown_no_net (Some h) (Some i) None g asked is = absurd (cc)
shown_no_net (Some h) (Some i) (Some u) g asked is = ap (λ p. is_net_ask (asked_of p)) is

show_no_net : (fields : List Bytes) (g : ℕ) (asked : Ask) → Some (g, asked) ≡ shown_in fields → is_net_ask asked ≡ false
show_no_net [] g asked is = absurd (cc)
show_no_net (w ∷ []) g asked is = absurd (cc)
show_no_net (w ∷ number ∷ []) g asked is = absurd (cc)
show_no_net (w ∷ number ∷ slot ∷ []) g asked is = absurd (cc)
show_no_net (w ∷ number ∷ slot ∷ node ∷ []) g asked is = shown_no_net (word_counter number) (slot_in slot) (word_name node) g asked is
show_no_net (w ∷ number ∷ slot ∷ node ∷ x ∷ more) g asked is = absurd (cc)

-- a line of any form that declares a network begins with `net`
pub net_by_form : (f : Form) (fields : List Bytes) (g : ℕ) (asked : Ask) → IsAskedAs f fields (Some (g, asked)) → is_net_ask asked ≡ true → is_net fields ≡ true
net_by_form form.Net fields g asked is net = net_of_net fields g asked is net
net_by_form form.ForAll fields g asked is net = absurd (true≢false (sym net ∙ all_no_net fields g asked is))
net_by_form form.Drop fields g asked is net = absurd (true≢false (sym net ∙ drop_no_net fields g asked is))
net_by_form form.Left fields g asked is net = absurd (true≢false (sym net ∙ left_no_net fields g asked is))
net_by_form form.Show fields g asked is net = absurd (true≢false (sym net ∙ show_no_net fields g asked is))
net_by_form form.Script fields g asked is net = script_of_net fields g asked is net
