-- Where the sender of an envelope stands among the nodes of a region, and its row in the table.
use Rattle.std.specs.Arc.{arc_slice_items}
use Rattle.std.proofs.Common.{◌≡◌, ◌≢◌, ℕ, map, arith, inl, inr, if◌then◌else◌, ◌<◌, ◌==◌, ◌&&◌, Bool, true, false, not, List, get_or, length, Option, Some, None, refl, sym, subst, ◌∙◌, ap, option_map, IfSome, slice_get}
use Rattle.std.proofs.lemmas.Bool.{cases_lt, eq-eqb}
use Rattle.std.proofs.lemmas.List.{get_or-map, get_or_past, length-map}
use Rattle.std.proofs.lemmas.List.Folds.{list_any_at}
use Rattle.scp_types.specs.Trees.{Slices}
use Rattle.scp_types.specs.declared.kind.Kind.{Kind}
use Rattle.scp_types.specs.declared.kind.Kind.TheVariants.{Nomination}
use Rattle.scp_types.specs.Statements.{Sent, kind_of}
use Rattle.scp_spec.specs.Backing.{slices_by}
use Rattle.scp_spec.specs.Rows.{row, with_row}
use Rattle.scp_spec.specs.Sets.{among}
use Rattle.node_table.specs.Places.{place_of_row}
use Rattle.node_table.proofs.Placing.{row-at_place}
use Rattle.node_view.specs.declared.configured.Configured.{Configured}
use Rattle.node_view.specs.declared.known_reach.KnownReach.{KnownReach}
use Rattle.node_view.specs.declared.region.Region.{Region}
use Rattle.node_view.specs.Knowing.{is_of_another}
use Rattle.node_view.specs.Listening.{KnowsReach, KnowsRegion, region_of}
use Rattle.node_view.specs.declared.standing.Standing.{Standing}
use Rattle.node_view.specs.Regions.{HasSlicesAt, IsFoundAmong, IsRegion, row_places, rows_of}
use Rattle.node_view.proofs.EntryLaws.{apart}
use Rattle.node_view.proofs.ReachKept.{KeepsReach, reach_kept}
use Rattle.node_view.proofs.ReachKept.KeepsReach.{stranger, same_slices}
use Rattle.node_view.proofs.RegionLaws.{region_kept}

-- who has a place is one of the nodes
pub among_there : (us : List ℕ) (i u : ℕ) → i < length us → get_or us i 0 ≡ u → among us u ≡ true
among_there us i u within is = list_any_at (λ y. y == u) us i 0 within (eq-eqb (get_or us i 0) u is)

-- of whom an envelope is
pub of_stranger : (own : ℕ) (nodes : List ℕ) (e : Sent) → among nodes e.sender ≡ false → is_of_another own nodes e ≡ false
of_stranger own nodes e out = ap (λ b. not (own == e.sender) && b) out ∙ and_false (not (own == e.sender))
  where
    and_false : (b : Bool) → (b && false) ≡ false
    and_false true = refl
    and_false false = refl

pub of_itself : (own : ℕ) (nodes : List ℕ) (e : Sent) → (own == e.sender) ≡ true → is_of_another own nodes e ≡ false
of_itself own nodes e itself = ap (λ b. not b && among nodes e.sender) itself

pub of_other : (own : ℕ) (nodes : List ℕ) (e : Sent) (i : ℕ) → i < length nodes → get_or nodes i 0 ≡ e.sender → (own == e.sender) ≡ false → is_of_another own nodes e ≡ true
of_other own nodes e i within is other = λ j. not (other j) && among_there nodes i e.sender within is j

-- who stands nowhere among the nodes, and who does
pub found_nowhere : (own : ℕ) (nodes : List ℕ) (e : Sent) (o : Option Standing) → IsFoundAmong nodes e.sender o → o ≡ None → is_of_another own nodes e ≡ false
found_nowhere own nodes e o found none = of_stranger own nodes e (subst (λ (x : Option Standing). IsFoundAmong nodes e.sender x) none found)

pub found_there : (nodes : List ℕ) (u : ℕ) (o : Option Standing) (s : Standing) → IsFoundAmong nodes u o → o ≡ Some s → (s.node < length nodes) × (get_or nodes s.node 0 ≡ u)
found_there nodes u o s found some = subst (λ (x : Option Standing). IsFoundAmong nodes u x) some found

pub found_other : (own : ℕ) (nodes : List ℕ) (e : Sent) (o : Option Standing) (s : Standing) → IsFoundAmong nodes e.sender o → o ≡ Some s → (own == e.sender) ≡ false → is_of_another own nodes e ≡ true
found_other own nodes e o s found some other = let there = found_there nodes e.sender o s found some in of_other own nodes e s.node there.0 there.1 other

-- a row that keeps the reach keeps the region
pub kept : (c : Configured) (table : List Sent) (e : Sent) (r : Region) → KeepsReach (arc_slice_items r.nodes) table e → KnowsRegion c table (Some r) → KnowsRegion c (with_row e table) (Some r)
kept c table e r keeps is = region_kept r table e keeps c.name c.slices is (reach_kept (arc_slice_items r.nodes) table e keeps c.name c.slices is.reach)

-- so does one of a stranger, and one in the place of a row with the same slices
pub stranger_keeps : (c : Configured) (table : List Sent) (e : Sent) (o : Option Region) (there : Option Standing) → IfSome o (λ r. IsFoundAmong (arc_slice_items r.nodes) e.sender there) → there ≡ None
    → KnowsRegion c table o → KnowsRegion c (with_row e table) o
stranger_keeps c table e None there found none is = tt
stranger_keeps c table e (Some r) there found none is = kept c table e r (stranger (subst (λ (x : Option Standing). IsFoundAmong (arc_slice_items r.nodes) e.sender x) none found)) is

pub same_slices_keep : (c : Configured) (table : List Sent) (e : Sent) (o : Option Region) (place : ℕ) → place_of_row table e.sender (kind_of e.body) ≡ Some place → option_map (λ (x : Sent). x.slices) (slice_get table place) ≡ Some e.slices
    → KnowsRegion c table o → KnowsRegion c (with_row e table) o
same_slices_keep c table e None place there same is = tt
same_slices_keep c table e (Some r) place there same is = kept c table e r (same_slices (ap (option_map (λ (x : Sent). x.slices)) (sym (row-at_place table e.sender (kind_of e.body) place there)) ∙ same)) is

-- what is known of a reach is right, so its region is
pub region_known : (c : Configured) (table : List Sent) (o : Option KnownReach) → KnowsReach c table o → KnowsRegion c table (region_of o)
region_known c table None knows = tt
region_known c table (Some k) knows = knows.region

-- ---- the slices of a row that a region keeps
-- the rows of a kind that a region keeps are those of its nodes
rows_are : (k : Kind) (r : Region) (own : ℕ) (configured : Slices) (table : List Sent) → IsRegion own configured table r → rows_of k r ≡ row_places table k (arc_slice_items r.nodes)
rows_are Nomination r own configured table is = is.nomination_rows
rows_are Kind.Ballot r own configured table is = is.ballot_rows

-- a node has the envelope's slices if its row does, and it is another than the node itself
pub has_slices : (own : ℕ) (configured : Slices) (table : List Sent) (e : Sent) (r : Region) (k : Kind) (n p : ℕ) → n ≢ r.place → get_or (rows_of k r) n None ≡ Some p
    → option_map (λ (x : Sent). x.slices) (slice_get table p) ≡ Some e.slices → IsRegion own configured table r → HasSlicesAt own configured table e r k n
has_slices own configured table e r k n p other there same is =
    let us = (arc_slice_items r.nodes) in
    let find = λ (u : ℕ). place_of_row table u k in
    let found : get_or (map find us) n None ≡ Some p = ap (λ (os : List (Option ℕ)). get_or os n None) (sym (rows_are k r own configured table is)) ∙ there in
    elim (cases_lt n (length us)) [
      | inl within ↦
          let u = get_or us n 0 in
          let at : place_of_row table u k ≡ Some p = sym (get_or-map find us n 0 None within) ∙ found in
          let another : (own == u) ≡ false = (λ i. sym is.itself i == u) ∙ apart us r.place n is.reach.ascending is.within within (λ one. other (sym one)) in
          let its : slices_by own configured table k u ≡ Some e.slices = ap (λ b. if b then Some configured else option_map (λ (x : Sent). x.slices) (row table u k)) another ∙ ap (option_map (λ (x : Sent). x.slices)) (sym (row-at_place table u k p at)) ∙ same in
          (within, its)
      | inr past ↦
          let none : None ≡ Some p = sym (get_or_past (map find us) n None (omega (arith, past, length-map us find))) ∙ found in
          cc
    ]
