-- Worlds whose journals are those of histories: a verdict on the journals is one on the histories.
use Rattle.std.proofs.Common.{◌≡◌, ℕ, Bool, true, false, ◌==◌, Option, Some, None, List, [], ◌∷◌, map, if◌then◌else◌, is_some, refl, sym, ◌∙◌, ap, subst, inl, inr}
use Rattle.std.proofs.lemmas.Bool.{true≢false}
use Rattle.scp_spec.specs.Networks.{HostedNode}
use Rattle.scp_spec.specs.Hosts.{Entry, History, entries, nodes_of}
use Rattle.scp_spec.specs.Isolation.{SameCast, closure}
use Rattle.scp_spec.specs.Verdicts.{IsVerdict, Verdict}
use Rattle.scp_spec.specs.Verdicts.Verdict.{CastDiffers, InputsDiffer, Same}
use Rattle.host_network.specs.Decoding.{reading}
use Rattle.host_journal.specs.Logs.{Log}
use Rattle.host_world.specs.Worlds.{AreJournalsOf, log_at}
use Rattle.scp_spec.proofs.Runs.KeptWithin.{closure-start}
use Rattle.host_compare.specs.Meanings.{IsVerdictBetween, IsVerdictOn, entries_in, nodes_in, defined_verdict}
use Rattle.host_compare.specs.declared.verdict.Verdict as code

-- the hosted nodes of a network are those of the history
nodes-map : (ls : List Log) (g : ℕ) → nodes_in (log_at ls g) ≡ nodes_of (map (λ l. l.config) ls) g
nodes-map [] g = refl
nodes-map (l ∷ ls) g = go (l.config.number == g) (nodes-map ls g)
  where
    go : (b : Bool) → nodes_in (log_at ls g) ≡ nodes_of (map (λ l. l.config) ls) g → nodes_in (if b then Some l else log_at ls g) ≡ (if b then l.config.nodes else nodes_of (map (λ l. l.config) ls) g)
    go true ih = refl
    go false ih = ih

nodes-of_history : (h : History) (ls : List Log) (g : ℕ) → AreJournalsOf h ls → nodes_in (log_at ls g) ≡ nodes_of h.configs g
nodes-of_history h ls g own_is = nodes-map ls g ∙ ap (λ cs. nodes_of cs g) own_is.configs

-- where a world hosts nobody its entries do not matter
first-without : (other : List HostedNode) (run runs others : List Entry) (i v : ℕ) (r : Verdict) → IsVerdict [] other run others i v r → IsVerdict [] other runs others i v r
first-without other run runs others i v (CastDiffers u) (inl h) = inl h
first-without other run runs others i v (CastDiffers u) (inr h) = absurd (true≢false (sym h.0))
first-without other run runs others i v (InputsDiffer place) h = absurd (true≢false (sym h.0.hosted))
first-without other run runs others i v (Same list) h = absurd (true≢false (sym h.0.hosted))

nobody-else : (one : List HostedNode) (run : List Entry) (i v : ℕ) → SameCast (closure one i v run) v one [] → ⊥
nobody-else one run i v cast = true≢false (sym cast.hosted ∙ ap is_some (cast.same v (closure-start one i v run)))

second-without : (one : List HostedNode) (run others more : List Entry) (i v : ℕ) (r : Verdict) → IsVerdict one [] run others i v r → IsVerdict one [] run more i v r
second-without one run others more i v (CastDiffers u) h = h
second-without one run others more i v (InputsDiffer place) h = absurd (nobody-else one run i v h.0)
second-without one run others more i v (Same list) h = absurd (nobody-else one run i v h.0)

-- the history in the place of the journal, in the first world and in the second
first-by_history : (o : Option Log) (nodes : List HostedNode) (run : List Entry) → nodes_in o ≡ nodes → ((l : Log) → o ≡ Some l → l.entries ≡ run) → (other : List HostedNode) (others : List Entry) (i v : ℕ) (r : Verdict)
    → IsVerdict (nodes_in o) other (entries_in o) others i v r → IsVerdict nodes other run others i v r
first-by_history (Some l) nodes run same entered other others i v r x = subst (λ k. IsVerdict k other run others i v r) same (subst (λ e. IsVerdict l.config.nodes other e others i v r) (entered l refl) x)
first-by_history None nodes run same entered other others i v r x = subst (λ k. IsVerdict k other run others i v r) same (first-without other [] run others i v r x)

second-by_history : (o : Option Log) (nodes : List HostedNode) (run : List Entry) → nodes_in o ≡ nodes → ((l : Log) → o ≡ Some l → l.entries ≡ run) → (one : List HostedNode) (ones : List Entry) (i v : ℕ) (r : Verdict)
    → IsVerdict one (nodes_in o) ones (entries_in o) i v r → IsVerdict one nodes ones run i v r
second-by_history (Some l) nodes run same entered one ones i v r x = subst (λ k. IsVerdict one k ones run i v r) same (subst (λ e. IsVerdict one l.config.nodes ones e i v r) (entered l refl) x)
second-by_history None nodes run same entered one ones i v r x = subst (λ k. IsVerdict one k ones run i v r) same (second-without one ones [] run i v r x)

-- a verdict on the journals is one on the histories
pub verdict_of_histories : (h k : History) (ls ms : List Log) (g i v : ℕ) (r : code.Verdict) → AreJournalsOf h ls → AreJournalsOf k ms → IsVerdictOn (log_at ls g) (log_at ms g) i v r → IsVerdictBetween h k g i v r
verdict_of_histories h k ls ms g i v r one other x =
    second-by_history (log_at ms g) (nodes_of k.configs g) (entries reading k g) (nodes-of_history k ms g other) (other.entries g) (nodes_of h.configs g) (entries reading h g) i v (defined_verdict r)
    (first-by_history (log_at ls g) (nodes_of h.configs g) (entries reading h g) (nodes-of_history h ls g one) (one.entries g) (nodes_in (log_at ms g)) (entries_in (log_at ms g)) i v (defined_verdict r) x)

-- a world that lacks the network does not host the node
pub verdict_without_network : (h k : History) (ls ms : List Log) (g i v : ℕ) → AreJournalsOf h ls → AreJournalsOf k ms → log_at ls g ≡ None → IsVerdictBetween h k g i v (code.TheVariants.CastDiffers v)
verdict_without_network h k ls ms g i v one other lost =
    verdict_of_histories h k ls ms g i v (code.TheVariants.CastDiffers v) one other (subst (λ o. IsVerdictOn o (log_at ms g) i v (code.TheVariants.CastDiffers v)) (sym lost) (inl (refl, refl)))
