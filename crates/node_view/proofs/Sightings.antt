-- What a view keeps is what the node sees, and its two tests are those of the definitions.
use Rattle.std.proofs.Common.{◌≡◌, ℕ, Bool, false, List, ◌∷◌, map, IsTrue, ◌↔◌, refl, sym, ◌∙◌}
use Rattle.std.proofs.lemmas.Bool.{true≢false, false_from_ne_true}
use Rattle.scp_types.specs.Trees.{Slices}
use Rattle.scp_types.specs.declared.kind.Kind.{Kind}
use Rattle.scp_types.specs.declared.kind.Kind.TheVariants.{Nomination}
use Rattle.scp_types.specs.declared.statement.Statement.{Statement}
use Rattle.scp_types.specs.Statements.{Sent}
use Rattle.scp_spec.specs.Sets.{among}
use Rattle.scp_spec.specs.Satisfaction.{sat}
use Rattle.scp_spec.specs.Quorums.{HasQuorum}
use Rattle.scp_spec.specs.Backing.{slices_by}
use Rattle.scp_spec.specs.Reach.{reach_of}
use Rattle.scp_spec.specs.Views.{rows_seen, led_by, passing_with, quorum_passes, seen}
use Rattle.scp_spec.proofs.Balloting.FairSight.{seen-fair}
use Rattle.scp_spec.proofs.Slices.Quorums.{has_quorum-from, has_quorum-found}
use Rattle.scp_spec.proofs.Reach.Chains.{reach_least}
use Rattle.scp_spec.proofs.Slices.Satisfaction.{sat_monotone}
use Rattle.scp_spec.proofs.Sets.Finite.{same_test}
use Rattle.scp_spec.proofs.Nodes.Views.{lists}
use Rattle.node_view.specs.Watching.{rows_by}

-- the parts of what is seen
pub seen_rows : (own : ℕ) (q : Slices) (leaders : List ℕ) (table : List Sent) (k : Kind) → (seen own q leaders table).rows k ≡ rows_seen own q table k
unfolding seen
seen_rows own q leaders table k = refl

pub seen_led : (own : ℕ) (q : Slices) (leaders : List ℕ) (table : List Sent) → (seen own q leaders table).led ≡ led_by leaders table
unfolding seen
seen_led own q leaders table = refl

-- the nomination rows of these nodes are those of leaders, where they lead
pub leaders_rows : (leaders : List ℕ) (table : List Sent) → rows_by Nomination table leaders ≡ led_by leaders table
unfolding led_by
leaders_rows leaders table = refl

-- the node is in its own reach
pub itself_reached : (own : ℕ) (q : Slices) (table : List Sent) (reach : List ℕ) → ((u : ℕ) → among reach u ≡ reach_of own q table u) → IsTrue (among reach own)
itself_reached own q table reach exactly = exactly own ∙ (reach_least own q table).holds.itself

-- no quorum passes where the node's own position does not
pub own_fails : (own : ℕ) (q : Slices) (leaders : List ℕ) (table : List Sent) (k : Kind) (own_passes : Bool) (test : Statement → Bool) → own_passes ≡ false → false ≡ (seen own q leaders table).quorum k own_passes test
own_fails own q leaders table k own_passes test fails =
    sym (false_from_ne_true ((seen own q leaders table).quorum k own_passes test) (λ h. true≢false (sym ((seen-fair own q leaders table).own k own_passes test h) ∙ fails)))

-- a quorum among those who pass, as the test
pub quorum_tested : (own : ℕ) (q : Slices) (leaders : List ℕ) (table : List Sent) (k : Kind) (own_passes : Bool) (test : Statement → Bool) (b : Bool)
    → IsTrue b ↔ HasQuorum sat (slices_by own q table k) (passing_with own table k own_passes test) own → b ≡ (seen own q leaders table).quorum k own_passes test
unfolding seen quorum_passes
quorum_tested own q leaders table k own_passes test b h =
    let all = own ∷ map (λ (e : Sent). e.sender) table in
    let slices_at = slices_by own q table k in
    let passing = passing_with own table k own_passes test in
    same_test b _
    (λ i. has_quorum-from sat slices_at sat_monotone all passing own (lists own q table k) (h.0 i))
    (λ i. h.1 (has_quorum-found sat slices_at all passing own i))
