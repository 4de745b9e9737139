-- The journals of scripts are those of histories of hosts.
use Rattle.std.proofs.Common.{◌≡◌, ◌≢◌, ◌&&◌, ℕ, Bool, true, false, not, nat_lt, List, [], length, Option, Some, None, Ok, Err, is_some, if◌then◌else◌, refl, sym, subst, inl, inr}
use Rattle.std.specs.Prelude.{Result}
use Rattle.line_script.specs.Script.{Bytes}
use Rattle.scp_types.specs.declared.event.Event.{Event}
use Rattle.scp_types.specs.declared.event.Refusal.{Refusal}
use Rattle.scp_types.specs.declared.event.Refusal.TheVariants.{NoMemory}
use Rattle.scp_spec.specs.Hosts.{Config}
use Rattle.scp_spec.specs.Networks.{is_open}
use Rattle.scp_spec.specs.Runs.{state_of}
use Rattle.host_config.specs.Configs.{names_of}
use Rattle.line_request.specs.Naming.{is_in}
use Rattle.host_network.specs.declared.applied.Given.{Given}
use Rattle.host_network.specs.Decoding.{step_of}
use Rattle.host_journal.specs.Logs.{Log}
use Rattle.host_world.specs.Worlds.{IsAnswered, IsAnsweredAt, and_then, history_without, log_at, logs_with, with_new_network}
use Rattle.host_world.proofs.Histories.{history-answered, history-joined}
use Rattle.host_world.proofs.Leaving.{history-left}
use Rattle.line_request.specs.Outlines.{Outlined, Waiting, waiting_at}
use Rattle.line_run.specs.Histories.{HaveHistory, ScriptsHaveHistories}
use Rattle.line_run.specs.Hosting.{Hosting, IsNetworkBegun, logs_joined}
use Rattle.line_run.specs.Joining.{HasJoined, HaveJoined, NetworkIsNamedAt}
use Rattle.line_run.specs.Unprinted.{IsFinishedUnprinted, TellsUnprinted, Unprinted}
use Rattle.line_run.specs.ServedNetworks.{AnswerIsHeardOf, IsEventServed}
use Rattle.line_run.specs.Settling.{HasSettled, HasSettledAt, HasSettledIn, hearing}
use Rattle.line_run.specs.Unheard.{first_emitted, unheard_at}
use Rattle.line_run.proofs.Keeping.{HearingsKeep, LinesKeep, handed-on-keeps, heard-of-keeps, order-keeps}

-- ---- networks that join

joined-has : (c : Config) (logs : List Log) → HaveHistory logs → HaveHistory (logs_joined c logs)
joined-has c logs has = go (log_at logs c.number) refl (nat_lt (length logs) 4096)
  where
    go : (o : Option Log) → log_at logs c.number ≡ o → (b : Bool)
        → HaveHistory (if not (is_some o) && b then logs_with (record { config = c; entries = [] }) logs else logs)
    go None none true = (with_new_network c has.0, history-joined has.0 logs c has.1 none)
    go None none false = has
    go (Some l) there b = has

begun-has : (g : ℕ) (old new : Hosting) → HaveHistory old.logs → IsNetworkBegun g old new → HaveHistory new.logs
begun-has g old new has h = go (waiting_at old.waiting g) h.0
  where
    go : (o : Option Outlined) → NetworkIsNamedAt logs_joined g o old.waiting new.waiting old.logs new.logs → HaveHistory new.logs
    go None k = subst (λ (x : List Log). HaveHistory x) (sym k.1) has
    go (Some d) k = subst (λ (x : List Log). HaveHistory x) (sym k.1.2) (joined-has k.1.0 old.logs has)

finished-has : (ws : Waiting) (old new : List Log) → HaveHistory old → HaveJoined logs_joined ws old new → HaveHistory new
finished-has ws old new has HaveJoined.none = has
finished-has ws old new has (HaveJoined.next one more) = finished-has _ _ new (by one) more
  where
    by : {g : ℕ} {d : Outlined} {now : List Log} → HasJoined logs_joined g d old now → HaveHistory now
    by (inl out) = subst (λ (x : List Log). HaveHistory x) (sym out.1) has
    by (inr joined) = subst (λ (x : List Log). HaveHistory x) (sym joined.2) (joined-has joined.0 old has)

-- ---- events

no-refusal : (v : Given) (r : Refusal) → ◌≢◌ {A = Result Given Refusal} (Ok v) (Err r)
no-refusal v r is = cc

-- what is refused changes no journal
answered-has : (g : ℕ) (e : Event) (r : Result Given Refusal) (old new : List Log) → HaveHistory old → IsAnswered old g e r new → HaveHistory new
answered-has g e (Ok given) old new has h = (and_then has.0 g e, history-answered has.0 old new g e (Ok given) has.1 h (no-refusal given NoMemory))
answered-has g e (Err x) old new has h = go (log_at old g) h
  where
    go : (l : Option Log) → IsAnsweredAt l old (step_of e) (Err x) new → HaveHistory new
    go None k = subst (λ (x : List Log). HaveHistory x) (sym k.1) has
    go (Some l) k = subst (λ (x : List Log). HaveHistory x) (sym k.1) has

hearing-has : (g slot : ℕ) → HearingsKeep HaveHistory g slot
hearing-has g slot u e r old new has h = answered-has g (hearing slot u e) r old new has h

served-has : (g : ℕ) (e : Event) (r : Result Given Refusal) (old new : Hosting) → HaveHistory old.logs → IsEventServed g e r old new → HaveHistory new.logs
served-has g e r old new has h = go (is_in old.named.served g) r h.2
  where
    now : HaveHistory h.0
    now = answered-has g e r old.logs h.0 has h.1

    go : (b : Bool) (a : Result Given Refusal) → AnswerIsHeardOf b g e a h.0 old new → HaveHistory new.logs
    go b (Err x) heard = subst (λ (x : List Log). HaveHistory x) (sym heard.0) now
    go true (Ok x) heard = heard-of-keeps HaveHistory g (hearing-has g) (first_emitted x.outs.items) x h.0 new.logs now heard.1.0
    go false (Ok x) heard = subst (λ (x : List Log). HaveHistory x) (sym heard.1.0) now

settled-has : (g slot : ℕ) (ended : Option Refusal) (old new : Hosting) → HaveHistory old.logs → HasSettled g slot old ended new → HaveHistory new.logs
settled-has g slot ended old new has h = go (log_at old.logs g) h
  where
    as-it-was : new ≡ old → HaveHistory new.logs
    as-it-was same = subst (λ (x : Hosting). HaveHistory x.logs) (sym same) has

    by : (b : Bool) (names : List ℕ) → HasSettledAt b g slot names old ended new → HaveHistory new.logs
    by false names k = as-it-was k.0
    by true names k = handed-on-keeps HaveHistory g slot (hearing-has g slot) names old.logs new.logs (unheard_at old.unheard g slot) k.0 ended has k.1

    go : (l : Option Log) → HasSettledIn l g slot old ended new → HaveHistory new.logs
    go None k = as-it-was k.0
    go (Some l) k = by (is_open (state_of l.config l.entries) slot) (names_of l.config.nodes) k

-- ---- lines

abbrev Has : Hosting → Type 0
Has h = HaveHistory h.logs

lines-have : LinesKeep Has
lines-have = record {
  begun = begun-has;
  declared = λ g d old new has h. subst (λ (x : List Log). HaveHistory x) (sym h.logs) has;
  serves = λ g b old new has h. subst (λ (x : List Log). HaveHistory x) (sym h.logs) has;
  served = served-has;
  settled = λ g slot ended old new plain has h. settled-has g slot ended old new has h;
  taken_back = λ g old new served has h. subst (λ (x : List Log). HaveHistory x) (sym h.logs) (history_without g has.0, history-left has.0 old.logs g has.1);
}

unprinted-has : (old new : Unprinted) (fields : List Bytes) (printed : Option Bytes) → Has old.hosting → TellsUnprinted old fields printed new → Has new.hosting
unprinted-has old new fields printed has (g, outcome, (o, ordered, done), silent, memory, trace) = order-keeps Has lines-have g o old.hosting new.hosting outcome has done

last-has : (old new : Unprinted) → HaveHistory old.hosting.logs → IsFinishedUnprinted old new → HaveHistory new.hosting.logs
last-has old new has h = finished-has old.hosting.waiting old.hosting.logs new.hosting.logs has h.0

first-has : HaveHistory []
first-has = (record { configs = []; calls = [] }, record { configs = refl; entries = λ g l there. absurd (cc) })

pub scripts_have_histories : ScriptsHaveHistories
scripts_have_histories = record { first = first-has; next = unprinted-has; last = last-has }
