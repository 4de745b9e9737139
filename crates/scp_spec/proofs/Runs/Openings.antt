-- Openings and closings, as R sees them. `Crowds` and `Networks` stand on it.
use Rattle.std.proofs.Common.{◌≡◌, ℕ, Bool, true, false, not, ◌==◌, Option, Some, None, List, [], ◌∷◌, ◌++◌, filter, option_map, if◌then◌else◌, refl, sym, ◌∙◌, ap, subst}
use Rattle.std.proofs.Math.Path.{fun_ext}
use Rattle.std.proofs.lemmas.Bool.{eqb-true}
use Rattle.scp_types.specs.Trees.{Slices}
use Rattle.std.proofs.lemmas.Option.{none-some}
use Rattle.scp_spec.specs.Sets.{Names, within}
use Rattle.scp_spec.specs.Satisfaction.{names}
use Rattle.scp_spec.specs.Nodes.{fresh}
use Rattle.scp_spec.specs.Networks.{HostedNode, Instance, Slot, Net, slices_of, instances_at, node_named, node_where_open, instances_of_new_slot, draws_after_opening}
use Rattle.scp_spec.specs.Isolation.{when_kept}
use Rattle.scp_spec.specs.Isolation.KeptStep.{Opening, Closing}
use Rattle.scp_spec.proofs.Runs.Sights.{cut_instance, IsInstance, AllInstances}
use Rattle.scp_spec.proofs.Runs.Follows.{Follows}
use Rattle.scp_spec.proofs.Nodes.Calm.{fresh-calm}
use Rattle.scp_spec.proofs.Networks.OpenSlots.{instances_at-drop, instances_at-drop_other, instances_at-push, instances_at-push_other}

-- Opening and closing

pub node_named-opened : (nodes : List HostedNode) (i u : ℕ)
    → node_named (instances_of_new_slot nodes i) u
    ≡ option_map (λ q. record { node = fresh i u q; emitted = [] }) (slices_of nodes u)
unfolding instances_of_new_slot fresh
node_named-opened [] i u = refl
node_named-opened (h ∷ hs) i u = go (h.name == u) refl (node_named-opened hs i u)
  where
    go : (b : Bool) → (h.name == u) ≡ b
        → node_named (instances_of_new_slot hs i) u
        ≡ option_map (λ q. record { node = fresh i u q; emitted = [] }) (slices_of hs u)
        → (if b then Some (record { node = fresh i h.name h.slices; emitted = [] }) else node_named
        (instances_of_new_slot hs i) u)
        ≡ option_map (λ q. record { node = fresh i u q; emitted = [] }) (if b then Some h.slices else slices_of hs u)
    go true e ih =
        ap {B = Option Instance} (λ x. Some (record { node = fresh i x h.slices; emitted = [] })) (eqb-true h.name u e)
    go false e ih = ih

-- the configured slices of hosted members lie in R
abbrev pub HaveSlicesWithin : Names → List HostedNode → Type 0
HaveSlicesWithin R nodes = (u : ℕ) (q : Slices) → slices_of nodes u ≡ Some q → R u ≡ true → within (names q) R ≡ true

fresh-instance : (R : Names) (i u : ℕ) (q : Slices) → (R u ≡ true → within (names q) R ≡ true)
    → IsInstance R u (record { node = fresh i u q; emitted = [] })
unfolding fresh
fresh-instance R i u q f = record {
  name = refl;
  good = λ r. record { closed = record { has = r; own = f r; rows = refl }; leaders = refl };
  calm = λ r. fresh-calm i u q;
  emitted = refl;
}

fresh-cut : (R : Names) (i u : ℕ) (o : Option Slices)
    → option_map (cut_instance R) (option_map (λ q. record { node = fresh i u q; emitted = [] }) o)
    ≡ option_map (λ q. record { node = fresh i u q; emitted = [] }) o
unfolding fresh
fresh-cut R i u None = refl
fresh-cut R i u (Some q) = refl

abbrev pub cast_of : Names → List HostedNode → ℕ → Option Slices
cast_of R nodes u = if R u then slices_of nodes u else None

-- a change of the slots that R doesn't see
other_slot : (R : Names) (cast : ℕ → Option Slices) (i : ℕ) (net net' : Net) → AllInstances R i net
    → instances_at net'.slots i ≡ instances_at net.slots i → Follows R cast i net (net', []) (λ w. false) None
other_slot R cast i net net' h e = record {
  sights = fun_ext (λ u. ap (λ o. if R u then option_map (cut_instance R) (node_where_open o u) else None) e);
  replies = λ w r. refl;
  instances = λ u p k. h u p (ap (λ o. node_where_open o u) (sym e) ∙ k);
}

pub opens : (R : Names) (i : ℕ) (net : Net) (j : ℕ) → AllInstances R i net → HaveSlicesWithin R net.nodes
    → instances_at net.slots j ≡ None
    → Follows R (cast_of R net.nodes) i net (
      record net {
        slots = net.slots ++ record { number = j; instances = instances_of_new_slot net.nodes j } ∷ [];
        draws = draws_after_opening j net.draws;
      },
      [],
    ) (λ w. false) (when_kept (j == i) Opening)
opens R i net j h nodes n = go (j == i) refl
  where
    slot : ℕ → Slot
    slot x = record { number = x; instances = instances_of_new_slot net.nodes x }

    now : Net
    now = record net { slots = net.slots ++ slot j ∷ []; draws = draws_after_opening j net.draws }

    go : (b : Bool) → (j == i) ≡ b → Follows R (cast_of R net.nodes) i net (now, []) (λ w. false) (when_kept b Opening)
    go false o = other_slot R (cast_of R net.nodes) i net now h (instances_at-push_other net.slots (slot j) i o)
    go true y = record {
      sights = fun_ext (λ u. see u (R u) refl);
      replies = λ w r. refl;
      instances = λ u p k. place u p (slices_of net.nodes u) refl (sym (there u) ∙ k);
    }
      where
        ji : j ≡ i
        ji = eqb-true j i y

        there : (u : ℕ)
            → node_where_open (instances_at now.slots i) u
            ≡ option_map (λ q. record { node = fresh i u q; emitted = [] }) (slices_of net.nodes u)
        there u = ap (λ o. node_where_open o u)
            (instances_at-push net.slots (slot j) i y (ap (instances_at net.slots) (sym ji) ∙ n))
            ∙ (ap (λ x. node_named (instances_of_new_slot net.nodes x) u) ji ∙ node_named-opened net.nodes i u)

        see : (u : ℕ) (b : Bool) → R u ≡ b
            → (if b then option_map (cut_instance R) (node_where_open (instances_at now.slots i) u) else None)
            ≡ option_map (λ q. record { node = fresh i u q; emitted = [] }) (if b then slices_of net.nodes u else None)
        see u true r = ap (option_map (cut_instance R)) (there u) ∙ fresh-cut R i u (slices_of net.nodes u)
        see u false r = refl

        place : (u : ℕ) (p : Instance) (o : Option Slices) → slices_of net.nodes u ≡ o
            → option_map (λ q. record { node = fresh i u q; emitted = [] }) o ≡ Some p → IsInstance R u p
        place u p None s q = cc
        place u p (Some x) s q =
            let m : record { node = fresh i u x; emitted = [] } ≡ p = cc in
            subst (λ y. IsInstance R u y) m (fresh-instance R i u x (λ r. nodes u x s r))

pub closes : (R : Names) (cast : ℕ → Option Slices) (i : ℕ) (net : Net) (j : ℕ) → AllInstances R i net
    → Follows R cast i net (record net { slots = filter (λ s. not (s.number == j)) net.slots }, []) (λ w. false)
    (when_kept (j == i) Closing)
closes R cast i net j h = go (j == i) refl
  where
    now : Net
    now = record net { slots = filter (λ s. not (s.number == j)) net.slots }

    go : (b : Bool) → (j == i) ≡ b → Follows R cast i net (now, []) (λ w. false) (when_kept b Closing)
    go false o = other_slot R cast i net now h (instances_at-drop_other net.slots j i o)
    go true y = record {
      sights = fun_ext (λ u. see (R u) (gone u));
      replies = λ w r. refl;
      instances = λ u p k. absurd (none-some p (sym (gone u) ∙ k));
    }
      where
        gone : (u : ℕ) → node_where_open (instances_at now.slots i) u ≡ None
        gone u =
            ap (λ o. node_where_open o u) (ap (instances_at now.slots) (sym (eqb-true j i y)) ∙ instances_at-drop net.slots j)

        see : (b : Bool) {o : Option Instance} → o ≡ None → (if b then option_map (cut_instance R) o else None) ≡ None
        see true e = ap (option_map (cut_instance R)) e
        see false e = refl
