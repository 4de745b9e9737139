-- A hearing, as R sees it: a member is handed what the machine of the kept steps emitted. `Events` stands on it.
use Rattle.std.proofs.Common.{◌≡◌, ℕ, zero, suc, Bool, true, false, not, ◌&&◌, ◌==◌, Option, Some, None, List, [], ◌∷◌, filter, option_map, slice_get, if◌then◌else◌, refl, sym, ◌∙◌, ap, ap₂, subst, inl, inr}
use Rattle.std.specs.List.{list_all}
use Rattle.std.proofs.lemmas.Bool.{cases_Bool, or_cases, and_parts, and_left, and_right, true≢false, not-true, eqb-true}
use Rattle.scp_types.specs.Trees.{Slices}
use Rattle.scp_types.specs.Statements.{Sent, kind_of}
use Rattle.scp_types.specs.declared.kind.Kind.{Kind}
use Rattle.scp_spec.specs.Sets.{Names, within}
use Rattle.scp_spec.specs.Satisfaction.{names}
use Rattle.scp_spec.specs.Rows.{is_kind}
use Rattle.scp_types.specs.declared.event.NodeEvent.TheVariants.{Take}
use Rattle.scp_spec.specs.Networks.{Instance, Net, instances_at, emission, node_where_open, act_known}
use Rattle.scp_spec.specs.Isolation.{KeptStep, when_kept}
use Rattle.scp_spec.specs.Isolation.KeptStep.{Hearing}
use Rattle.scp_spec.proofs.Equality.Sameness.{eqb-refl}
use Rattle.scp_spec.proofs.Sets.Lists.{all_filter}
use Rattle.scp_spec.proofs.Nodes.Views.{announces_in, if_some}
use Rattle.scp_spec.proofs.Runs.Sights.{cut_instance, sight, heard_to, outs_heard, IsInstance, AllInstances}
use Rattle.scp_spec.proofs.Runs.Follows.{Follows, unseen, member_kept, member_quiet}
use Rattle.scp_spec.proofs.Runs.Unkept.{empty, stays}

-- what an instance has emitted
get-all : {X : Type 0} (P : X → Bool) (xs : List X) (k : ℕ) → list_all P xs ≡ true → if_some P (slice_get xs k) ≡ true
get-all P [] k h = refl
get-all P (x ∷ xs) zero h = (and_parts (P x) (list_all P xs) h).0
get-all P (x ∷ xs) (suc k) h = get-all P xs k (and_parts (P x) (list_all P xs) h).1

emission-all : (R : Names) (u : ℕ) (o : Option Instance) (kind : Kind) (k : ℕ) → ((p : Instance) → o ≡ Some p → IsInstance R u p)
    → if_some (λ e. (e.sender == u) && announces_in R e) (emission o kind k) ≡ true
emission-all R u None kind k h = refl
emission-all R u (Some p) kind zero h = refl
emission-all R u (Some p) kind (suc k) h =
    get-all (λ e. (e.sender == u) && announces_in R e) (filter (λ e. is_kind kind (kind_of e.body)) p.emitted) k
    (all_filter (λ e. (e.sender == u) && announces_in R e) (λ e. (e.sender == u) && announces_in R e)
    (λ e. is_kind kind (kind_of e.body)) (λ e a b. a) p.emitted (h p refl).emitted)

pub emission-cut : (R : Names) (o : Option Instance) (kind : Kind) (k : ℕ)
    → emission (option_map (cut_instance R) o) kind k ≡ emission o kind k
emission-cut R None kind k = refl
emission-cut R (Some p) kind zero = refl
emission-cut R (Some p) kind (suc k) = refl

pub heard : (R : Names) (cast : ℕ → Option Slices) (i : ℕ) (net : Net) (j u from : ℕ) (kind : Kind) (k : ℕ)
    → AllInstances R i net
    → Follows R cast i net (act_known net j u (emission (node_where_open (instances_at net.slots j) from) kind k))
    (λ w. (j == i) && (u == w)) (when_kept ((j == i) && R u && R from) (Hearing u from kind k))
heard R cast i net j u from kind k h = elim (cases_Bool (j == i)) [
  | inr n ↦ subst
      (λ (x : Option KeptStep). Follows R cast i net
      (act_known net j u (emission (node_where_open (instances_at net.slots j) from) kind k))
      (λ w. (j == i) && (u == w)) x)
      (sym (ap (λ b. when_kept b (Hearing u from kind k))
      (and_left ((j == i) && R u) (R from) (and_left (j == i) (R u) n))))
      (elsewhere (emission (node_where_open (instances_at net.slots j) from) kind k) (and_left (j == i) (R u) n))
  | inl y ↦ subst
      (λ x. Follows R cast i net (act_known net x u (emission (node_where_open (instances_at net.slots x) from) kind k))
      (λ w. (x == i) && (u == w)) (when_kept ((x == i) && R u && R from) (Hearing u from kind k)))
      (sym (eqb-true j i y))
      (here (emission (node_where_open (instances_at net.slots i) from) kind k) (R u) (R from) refl refl refl
      (emission-all R from (node_where_open (instances_at net.slots i) from) kind k (λ p q. h from p q)))
]
  where
    elsewhere : (o : Option Sent) → ((j == i) && R u) ≡ false
        → Follows R cast i net (act_known net j u o) (λ w. (j == i) && (u == w)) None
    elsewhere None b = stays R cast i net (λ w. (j == i) && (u == w)) h
    elsewhere (Some e) b = unseen R cast i net j u (Take e) h b

    -- what the machine hands over is the same
    handed : (o : Option Sent) → R from ≡ true → emission (node_where_open (instances_at net.slots i) from) kind k ≡ o
        → o ≡ emission (sight R i net from) kind k
    handed o r q = sym (rw r (emission-cut R (node_where_open (instances_at net.slots i) from) kind k ∙ q))

    kept_is : (a b : Bool) → R u ≡ a → R from ≡ b
        → when_kept (a && b) (Hearing u from kind k) ≡ when_kept ((i == i) && R u && R from) (Hearing u from kind k)
    kept_is a b p q =
        ap₂ (λ (x y : Bool). when_kept (x && y) (Hearing u from kind k))
        (sym (ap (λ z. z && R u) (eqb-refl i) ∙ p)) (sym q)

    at : (a b : Bool) (o : Option Sent) → R u ≡ a → R from ≡ b
        → Follows R cast i net (act_known net i u o)
        (λ w. (i == i) && (u == w)) (when_kept (a && b) (Hearing u from kind k))
        → Follows R cast i net (act_known net i u o)
        (λ w. (i == i) && (u == w)) (when_kept ((i == i) && R u && R from) (Hearing u from kind k))
    at a b o p q x =
        subst (λ (y : Option KeptStep). Follows R cast i net (act_known net i u o) (λ w. (i == i) && (u == w)) y)
        (kept_is a b p q) x

    here : (o : Option Sent) (a b : Bool) → R u ≡ a → R from ≡ b
        → emission (node_where_open (instances_at net.slots i) from) kind k ≡ o
        → if_some (λ e. (e.sender == from) && announces_in R e) o ≡ true
        → Follows R cast i net (act_known net i u o)
        (λ w. (i == i) && (u == w)) (when_kept ((i == i) && R u && R from) (Hearing u from kind k))
    here None true true p r q s = at true true None p r (record {
      sights = ap (heard_to (sight R i net) u) (handed None r q);
      replies = λ w x. empty ((i == i) && (u == w)) (u == w)
          ∙ ap (λ (o : Option Sent). if u == w then outs_heard (sight R i net) u o else []) (handed None r q);
      instances = h;
    })
    here None true false p r q s = at true false None p r (stays R cast i net (λ w. (i == i) && (u == w)) h)
    here None false true p r q s = at false true None p r (stays R cast i net (λ w. (i == i) && (u == w)) h)
    here None false false p r q s = at false false None p r (stays R cast i net (λ w. (i == i) && (u == w)) h)
    here (Some e) true true p r q s =
        let sent = and_parts (e.sender == from) (announces_in R e) s in
        let in_R : R e.sender ≡ true = ap R (eqb-true e.sender from sent.0) ∙ r in
        let f = member_kept R cast i net u (Take e) h p sent.1 (
          in_R,
          elim (or_cases (not (R e.sender)) (within (names e.slices) R) sent.1) [
            | inl n ↦ absurd
                (true≢false (sym in_R ∙ not-true (R e.sender) n))
            | inr w ↦ w
          ],
        ) in
        at true true (Some e) p r (record {
          sights = f.sights ∙ ap (heard_to (sight R i net) u) (handed (Some e) r q);
          replies = λ w x. f.replies w x
              ∙ ap (λ (o : Option Sent). if u == w then outs_heard (sight R i net) u o else []) (handed (Some e) r q);
          instances = f.instances;
        })
    here (Some e) true false p r q s =
        at true false (Some e) p r
        (member_quiet R cast i net u e h p
        (ap R (eqb-true e.sender from (and_parts (e.sender == from) (announces_in R e) s).0) ∙ r))
    here (Some e) false true p r q s =
        at false true (Some e) p r (unseen R cast i net i u (Take e) h (and_right (i == i) (R u) p))
    here (Some e) false false p r q s =
        at false false (Some e) p r (unseen R cast i net i u (Take e) h (and_right (i == i) (R u) p))
