-- What hearings keep, and networks that join, are declared or taken back, is kept by lines, and so by all lines of a script.
use Rattle.std.proofs.Common.{◌≡◌, ◌∙◌, ◌&&◌, ℕ, Bool, true, false, not, List, Option, Some, None, Ok, Err, refl, sym, ap, subst}
use Rattle.std.specs.Prelude.{Result}
use Rattle.std.proofs.lemmas.Bool.{false≢true, true≢false}
use Rattle.std.specs.List.{enumerate_from}
use Rattle.line_script.specs.Script.{Bytes}
use Rattle.line_script.specs.Runs.{HasRun, Passes, Runs}
use Rattle.line_script.specs.Runs.Passes.{skipped, told}
use Rattle.line_script.specs.Runs.Runs.{ends, next, bad, short}
use Rattle.line_script.specs.declared.run.Stop.{Stop}
use Rattle.scp_types.specs.Statements.{Sent}
use Rattle.scp_types.specs.declared.event.Event.{Event}
use Rattle.scp_types.specs.declared.event.Event.TheVariants as event
use Rattle.scp_types.specs.declared.event.Out.{Out}
use Rattle.scp_types.specs.declared.event.Refusal.{Refusal}
use Rattle.scp_spec.specs.Networks.{Budgets}
use Rattle.host_network.specs.declared.applied.Given.{Given}
use Rattle.host_network.specs.declared.emission.Emission.{Emission}
use Rattle.host_journal.specs.Logs.{Log}
use Rattle.host_world.specs.Worlds.{IsAnswered, items_of, log_at}
use Rattle.line_request.specs.Naming.{Named, is_in, named_with, served_with}
use Rattle.line_request.specs.Outlines.{Outlined, waiting_at}
use Rattle.line_request.specs.Taking.{is_declared}
use Rattle.line_request.specs.Telling.{is_unserved}
use Rattle.line_request.specs.declared.order.Order.{Order}
use Rattle.line_request.specs.declared.order.Order.TheVariants as order
use Rattle.line_request.specs.declared.request.Declaration.{Declaration}
use Rattle.line_request.specs.declared.request.Declaration.TheVariants.{Net}
use Rattle.line_request.specs.declared.request.Request.TheVariants.{Declare, Apply, Settle}
use Rattle.line_run.specs.declared.outcome.Outcome.{Outcome}
use Rattle.line_run.specs.declared.outcome.Outcome.TheVariants.{Declared, Answer, Answers, Settled}
use Rattle.line_run.specs.Hosting.{Hosting, IsNetworkBegun, new_hosting}
use Rattle.line_run.specs.Running.{Does, IsDeclaredSo, RefusesLine, Tells}
use Rattle.line_run.specs.ServedNetworks.{AllIsHeard as heard, AreDelivered, AreDeliveredTo, HaveOthersHeard, IsDropAnswered, IsEventServed, IsHeardAt, IsHeardByOthers, IsTakenBack, hosted_names_in}
use Rattle.line_run.specs.ServedNetworks.AreDelivered.{next_node, none_left}
use Rattle.line_run.specs.ServedNetworks.HaveOthersHeard.{all_heard, one_heard}
use Rattle.line_run.specs.Settling.{AreHandedOn, HasSettled, IsHeardBy, hearing}
use Rattle.line_run.specs.Settling.IsHeardBy.{by_all, by_one, refused}
use Rattle.line_run.specs.Settling.AreHandedOn.{none_waits, one_waits, cut_short}
use Rattle.line_run.specs.Unheard.{named_emissions}

-- ---- hearings at a slot

-- each hearing at a slot keeps this of the journals
abbrev pub HearingsKeep : (List Log → Type 0) → ℕ → ℕ → Type 0
HearingsKeep P g slot = (u : ℕ) (e : Emission) (r : Result Given Refusal) (old new : List Log) → P old → IsAnswered old g (hearing slot u e) r new → P new

module _ (P : List Log → Type 0) (g slot : ℕ) (k : HearingsKeep P g slot) where
  pub heard-keeps : (e : Emission) (us : List ℕ) (old new : List Log) (more : List Emission) (ended : Option Refusal) → P old → IsHeardBy g slot e us old more ended new → P new
  heard-keeps e us old new more ended p by_all = p
  heard-keeps e us old new more ended p (by_one {u = u} r answer rest) = heard-keeps e _ _ new _ ended (k u e (Ok r) old _ p answer.0) rest
  heard-keeps e us old new more ended p (refused {u = u} r answer) = k u e (Err r) old new p answer

  pub handed-on-keeps : (names : List ℕ) (old new : List Log) (es left : List Emission) (ended : Option Refusal) → P old → AreHandedOn g slot names old es ended left new → P new
  handed-on-keeps names old new es left ended p none_waits = p
  handed-on-keeps names old new es left ended p (one_waits {now = now} h rest) = handed-on-keeps names now new _ left ended (heard-keeps _ _ old now _ None p h) rest
  handed-on-keeps names old new es left ended p (cut_short r h) = heard-keeps _ _ old new _ (Some r) p h

  told-keeps : (e : Emission) (us : List ℕ) (old new : List Log) (more : List Emission) → P old → HaveOthersHeard g slot e us old more new → P new
  told-keeps e us old new more p all_heard = p
  told-keeps e us old new more p (one_heard {now = now} ended one memory rest) = told-keeps e _ now new _ (heard-keeps e _ old now _ ended p one) rest

  pub all-heard-keeps : (names : List ℕ) (old new : List Log) (es : List Emission) → P old → heard g slot names old es new → P new
  all-heard-keeps names old new es p heard.none_waits = p
  all-heard-keeps names old new es p (heard.one_waits {now = now} each rest) = all-heard-keeps names now new _ (told-keeps _ names old now _ p each) rest

-- the others hear what an event of a served network gave out
pub heard-of-keeps : (P : List Log → Type 0) (g : ℕ) → ((slot : ℕ) → HearingsKeep P g slot) → (o : Option Sent) (r : Given) (old new : List Log) → P old → IsHeardAt g o r old new → P new
heard-of-keeps P g k None r old new p h = subst P (sym h) p
heard-of-keeps P g k (Some e) r old new p h = by (hosted_names_in (log_at old g)) h
  where
    by : (names : Option (List ℕ)) → IsHeardByOthers g e.slot names old (named_emissions r) new → P new
    by None h = subst P (sym h) p
    by (Some names) h = all-heard-keeps P g e.slot (k e.slot) names old new (named_emissions r) p h

-- ---- lines

-- lines of each kind keep this, where an event is heard of in a served network
pub record LinesKeep (P : Hosting → Type 0) : Type 0 where
  pub begun : (g : ℕ) (old new : Hosting) → P old → IsNetworkBegun g old new → P new
  pub declared : (g : ℕ) (d : Declaration) (old new : Hosting) → P old → IsDeclaredSo g d old.named old new → P new
  pub serves : (g : ℕ) (b : Budgets) (old new : Hosting) → P old → IsDeclaredSo g (Net b) (served_with g old.named) old new → P new
  pub served : (g : ℕ) (e : Event) (r : Result Given Refusal) (old new : Hosting) → P old → IsEventServed g e r old new → P new
  pub settled : (g slot : ℕ) (ended : Option Refusal) (old new : Hosting) → is_in old.named.served g ≡ false → P old → HasSettled g slot old ended new → P new
  pub taken_back : (g : ℕ) (old new : Hosting) → is_in old.named.served g ≡ true → P old → IsTakenBack g old new → P new

-- which networks are served stays where one is named
begun-served : (g j : ℕ) (old new : Hosting) → IsNetworkBegun g old new → is_in new.named.served j ≡ is_in old.named.served j
begun-served g j old new h = go (waiting_at old.waiting g) h.2
  where
    go : (o : Option Outlined) → new.named ≡ named_with g o old.named → is_in new.named.served j ≡ is_in old.named.served j
    go None named = ap (λ (n : Named). is_in n.served j) named
    go (Some d) named = ap (λ (n : Named). is_in n.served j) named

by-both : (b c : Bool) → b ≡ true → (b && not c) ≡ false → c ≡ true
by-both true true e h = refl
by-both true false e h = absurd (true≢false h)
by-both false c e h = absurd (false≢true e)

no-ok : {A B : Type 0} (x : A) (y : B) → ◌≡◌ {A = Result A B} (Ok x) (Err y) → ⊥
no-ok x y h = cc

module _ (P : Hosting → Type 0) (k : LinesKeep P) where
  delivered-keeps : (g : ℕ) (bytes : Bytes) (us : List ℕ) (old new : Hosting) (rs : List (Result Given Refusal)) → P old → AreDelivered g bytes us old rs new → P new
  delivered-keeps g bytes us old new rs p none_left = p
  delivered-keeps g bytes us old new rs p (next_node {u = u} r one rest) = delivered-keeps g bytes _ _ new _ (k.served g (event.Deliver u bytes) r old _ p one) rest

  delivered-to-keeps : (g : ℕ) (bytes : Bytes) (names : Option (List ℕ)) (old new : Hosting) (rs : List (Result Given Refusal)) → P old → AreDeliveredTo g bytes names old rs new → P new
  delivered-to-keeps g bytes None old new rs p h = subst P (sym h.0) p
  delivered-to-keeps g bytes (Some names) old new rs p h = delivered-keeps g bytes names old new rs p h

  dropped-keeps : (b : Bool) (g : ℕ) (old new : Hosting) (r : Result (List Out) Refusal) → is_declared old.waiting old.named g ≡ b → is_unserved old.waiting old.named g ≡ false → P old → IsDropAnswered b g old r new → P new
  dropped-keeps false g old new r declared served p h = subst P (sym h.1) p
  dropped-keeps true g old new r declared served p h = k.taken_back g old new (by-both (is_declared old.waiting old.named g) (is_in old.named.served g) declared served) p h.1

  pub order-keeps : (g : ℕ) (o : Order) (old new : Hosting) (outcome : Outcome) → P old → Does g o old outcome new → P new
  order-keeps g (order.Request (Declare d)) old new Declared p h = k.declared g d old new p h
  order-keeps g (order.Request (Apply e)) old new (Answer r) p h = k.served g e r h.1.0 new (k.begun g old h.1.0 p h.1.1) h.1.2
  order-keeps g (order.Request (Settle slot)) old new (Settled i ended) p h = k.settled g slot ended h.1.0 new (begun-served g g old h.1.0 h.1.1 ∙ h.0) (k.begun g old h.1.0 p h.1.1) h.1.2
  order-keeps g (order.Serve b) old new Declared p h = k.serves g b old new p h
  order-keeps g (order.ForAll bytes) old new (Answers rs) p h = delivered-to-keeps g bytes (hosted_names_in (log_at h.1.0.logs g)) h.1.0 new rs.items (k.begun g old h.1.0 p h.1.1) h.1.2
  order-keeps g order.Drop old new (Answer r) p h = dropped-keeps (is_declared old.waiting old.named g) g old new (items_of r) refl h.0 p h.1
  order-keeps g o old new outcome p h = absurd h

  pub line-keeps : (old new : Hosting) (fields : List Bytes) (printed : Option Bytes) → P old → Tells old fields printed new → P new
  line-keeps old new fields printed p (g, outcome, (o, ordered, done), said) = order-keeps g o old new outcome p done

  passed-keeps : (s t : Hosting) (line written : Bytes) → P s → Passes Tells s line written t → P t
  passed-keeps s t line written p (skipped empty) = p
  passed-keeps s t line written p (told runs are tells) = line-keeps s t _ _ p tells

  lines-keep : (s t : Hosting) (lines : List (ℕ × Bytes)) (printed : Bytes) (end : Result (Unit {0}) Stop) → P s → end ≡ Ok tt → Runs Tells RefusesLine s lines printed end t → P t
  lines-keep s t lines printed end p ok ends = p
  lines-keep s t lines printed end p ok (next passes more) = lines-keep _ t _ _ end (passed-keeps s _ _ _ p passes) ok more
  lines-keep s t lines printed end p ok (bad fails) = absurd (no-ok _ _ (sym ok))
  lines-keep s t lines printed end p ok short = absurd (no-ok _ _ (sym ok))

  pub runs-keep : (text : Bytes) (before after : Option Bytes) (new : Hosting) → P new_hosting → HasRun Tells RefusesLine new_hosting text before after (Ok tt) new → P new
  runs-keep text before after new p run = lines-keep new_hosting new (enumerate_from 1 run.lines) run.printed (Ok tt) p refl run.ran
