-- A reached node's first row changes one entry of a region, or none, and a copy of a region is one.
use Rattle.std.specs.Arc.{arc_slice_items}
use Rattle.std.proofs.Common.{◌≡◌, ◌≢◌, ◌⊎◌, ℕ, ◌<◌, Bool, true, false, ◌&&◌, ◌==◌, List, get_or, set, length, length-set, Option, Some, None, option_map, if◌then◌else◌, Vec, refl, sym, subst, ◌∙◌, ap, arith, inl, inr}
use Rattle.std.specs.Global.{Global}
use Rattle.std.proofs.lemmas.Bool.{cases_Bool, cases_lt, and_from, eqb-true, eq-eqb, ne_eqb, true≢false}
use Rattle.std.proofs.lemmas.List.Folds.{list_any_at}
use Rattle.std.proofs.lemmas.List.{get_or-set_same, get_or-set_other, length-map}
use Rattle.scp_types.specs.Trees.{Slices}
use Rattle.scp_types.specs.declared.kind.Kind.{Kind}
use Rattle.scp_types.specs.declared.kind.Kind.TheVariants.{Nomination}
use Rattle.scp_types.specs.Statements.{Sent, kind_of}
use Rattle.scp_spec.specs.Sets.{among, AreWithin, IsAscending}
use Rattle.scp_spec.proofs.Sets.Finite.{within-at}
use Rattle.scp_spec.specs.Satisfaction.{sat, names}
use Rattle.scp_spec.specs.Quorums.{is_satisfied}
use Rattle.scp_spec.specs.Backing.{slices_by}
use Rattle.scp_spec.specs.Reach.{IsReach}
use Rattle.scp_spec.specs.Rows.{row, with_row, is_row_of, is_kind}
use Rattle.scp_spec.proofs.Statements.Offers.{row-with}
use Rattle.scp_bits.specs.Places.{Compiled, Numbered}
use Rattle.scp_bits.specs.Met.{IsCompiled, nodes_at}
use Rattle.scp_bits.specs.Searching.{AreCompiled, met_at}
use Rattle.node_view.specs.declared.region.RegionEntry.{RegionEntry}
use Rattle.node_view.specs.declared.region.Region.{Region}
use Rattle.node_view.specs.declared.region.Unshared.{Unshared}
use Rattle.node_table.specs.Places.{place_of_row}
use Rattle.node_view.specs.Forms.{AreBelow, Fits, IsFoundInEither, IsFoundWithin, MayJoin}
use Rattle.node_view.specs.Regions.{IsCopy, IsEntry, IsRegion, forms_of, other_kind, row_places}
use Rattle.node_view.proofs.FormLaws.{agreed_set, below_more, below_set}
use Rattle.node_view.proofs.PlaceLaws.{place_set, places_kept}

-- nodes at two places are two
pub apart : (us : List ℕ) (i j : ℕ) → IsAscending us → i < length us → j < length us → i ≢ j → (get_or us i 0 == get_or us j 0) ≡ false
apart us i j up a b other = ne_eqb (get_or us i 0) (get_or us j 0) (λ e. elim (cases_lt i j) [
  | inl l ↦ let low : get_or us i 0 < get_or us j 0 = up i j 0 l b in absurd (omega (arith, low, e))
  | inr m ↦ elim (cases_lt j i) [
    | inl l ↦ let low : get_or us j 0 < get_or us i 0 = up j i 0 l a in absurd (omega (arith, low, e))
    | inr n ↦ absurd (other (omega arith))
  ]
])

-- ---- slices that a row does not change
other_node : (k : Kind) (e : Sent) (u : ℕ) → (e.sender == u) ≡ false → is_row_of u k e ≡ false
other_node k e u h = ap (λ b. b && is_kind k (kind_of e.body)) h

of_other_kind : (k : Kind) (e : Sent) (u : ℕ) → is_kind k (kind_of e.body) ≡ false → is_row_of u k e ≡ false
of_other_kind k e u h = go (e.sender == u)
  where
    go : (b : Bool) → (b && is_kind k (kind_of e.body)) ≡ false
    go true = h
    go false = refl

-- they are a node's own, or another's that the row is not of
pub slices_same : (own : ℕ) (configured : Slices) (table : List Sent) (e : Sent) (k : Kind) (u : ℕ) → ((own == u) ≡ true) ⊎ (is_row_of u k e ≡ false)
    → slices_by own configured table k u ≡ slices_by own configured (with_row e table) k u
slices_same own configured table e k u (inl h) =
    ap (λ b. if b then Some configured else option_map (λ (x : Sent). x.slices) (row table u k)) h
    ∙ sym (ap (λ b. if b then Some configured else option_map (λ (x : Sent). x.slices) (row (with_row e table) u k)) h)
slices_same own configured table e k u (inr h) =
    ap (λ (o : Option Sent). if own == u then Some configured else option_map (λ (x : Sent). x.slices) o)
    (sym (row-with e table u k ∙ ap (λ b. if b then Some e else row table u k) h))

same_compiled : (own : ℕ) (configured : Slices) (table : List Sent) (e : Sent) (k : Kind) (us : List ℕ) (cs : List (Option Numbered))
    → ((i : ℕ) → i < length us → ((own == get_or us i 0) ≡ true) ⊎ (is_row_of (get_or us i 0) k e ≡ false))
    → AreCompiled us (slices_by own configured table k) cs → AreCompiled us (slices_by own configured (with_row e table) k) cs
same_compiled own configured table e k us cs others are = record {
  as_many = are.as_many;
  each = λ i h ws. are.each i h ws ∙ ap (λ (o : Option Slices). is_satisfied sat o (among (nodes_at us ws))) (slices_same own configured table e k (get_or us i 0) (others i h));
  agreed = are.agreed;
}

-- ---- the one that it changes
slices_now : (own : ℕ) (configured : Slices) (table : List Sent) (e : Sent) (k : Kind) → (own == e.sender) ≡ false → is_kind k (kind_of e.body) ≡ true
    → slices_by own configured (with_row e table) k e.sender ≡ Some e.slices
slices_now own configured table e k another kind =
    ap (λ b. if b then Some configured else option_map (λ (x : Sent). x.slices) (row (with_row e table) e.sender k)) another
    ∙ ap (option_map (λ (x : Sent). x.slices))
    (row-with e table e.sender k ∙ ap (λ b. if b then Some e else row table e.sender k) (and_from (e.sender == e.sender) (is_kind k (kind_of e.body)) (eq-eqb e.sender e.sender refl) kind))

set_compiled : (own : ℕ) (configured : Slices) (table : List Sent) (e : Sent) (k : Kind) (us : List ℕ) (cs : List (Option Numbered)) (p : ℕ) (f : Numbered)
    → IsAscending us → p < length us → get_or us p 0 ≡ e.sender → (own == e.sender) ≡ false → is_kind k (kind_of e.body) ≡ true → IsCompiled false us e.slices f.set → Fits f cs
    → AreCompiled us (slices_by own configured table k) cs → AreCompiled us (slices_by own configured (with_row e table) k) (set cs p (Some f))
set_compiled own configured table e k us cs p f up inside sender_is another kind compiled fits are = record {
  as_many = length-set cs p (Some f) ∙ are.as_many;
  each = λ i h ws. elim (cases_Bool (i == p)) [
    | inl here ↦
        let is : i ≡ p = eqb-true i p here in
        let room : p < length cs = omega (arith, inside, are.as_many) in
        let now = ap (λ j. slices_by own configured (with_row e table) k (get_or us j 0)) is
        ∙ (ap (slices_by own configured (with_row e table) k) sender_is ∙ slices_now own configured table e k another kind) in
        ap (λ j. met_at (get_or (set cs p (Some f)) j None) ws) is
        ∙ (ap (λ (o : Option Numbered). met_at o ws) (get_or-set_same cs p (Some f) None room)
        ∙ (compiled ws ∙ sym (ap (λ (o : Option Slices). is_satisfied sat o (among (nodes_at us ws))) now)))
    | inr there ↦
        let other : i ≢ p = λ is. true≢false (sym (eq-eqb i p is) ∙ there) in
        let sender : (e.sender == get_or us i 0) ≡ false =
        ap (λ w. w == get_or us i 0) (sym sender_is) ∙ apart us p i up inside h (λ is. other (sym is)) in
        ap (λ (o : Option Numbered). met_at o ws) (get_or-set_other cs p i (Some f) None other)
        ∙ (are.each i h ws
        ∙ ap (λ (o : Option Slices). is_satisfied sat o (among (nodes_at us ws))) (slices_same own configured table e k (get_or us i 0) (inr (other_node k e (get_or us i 0) sender))))
  ];
  agreed = agreed_set cs p f (omega (arith, inside, are.as_many)) fits are.agreed;
}

module _ (table : List Sent) (e : Sent) (r : Region) (own : ℕ) (configured : Slices) (is : IsRegion own configured table r) where
  module _ (x : RegionEntry) (entry : IsEntry own configured table e r x) where
    another : (own == e.sender) ≡ false
    another =
        (λ i. sym is.itself i == sym entry.sender i)
        ∙ apart (arc_slice_items r.nodes) r.place x.place is.reach.ascending is.within entry.within (λ same. entry.another (sym same))

    reach : IsReach own configured (with_row e table) (arc_slice_items r.nodes)
    reach = entry.reach is.reach

    -- no other reached node's row is of the sender
    other_sender : (i : ℕ) → i < length (arc_slice_items r.nodes) → i ≢ x.place → (e.sender == get_or (arc_slice_items r.nodes) i 0) ≡ false
    other_sender i h other =
        ap (λ w. w == get_or (arc_slice_items r.nodes) i 0) (sym entry.sender) ∙ apart (arc_slice_items r.nodes) x.place i is.reach.ascending entry.within h (λ same. other (sym same))

    -- where the rows of its kind stand, once the place of this one is set
    row_set : (k : Kind) → k ≡ kind_of e.body → set (row_places table k (arc_slice_items r.nodes)) x.place x.row ≡ row_places (with_row e table) k (arc_slice_items r.nodes)
    row_set k same =
        place_set table e k (arc_slice_items r.nodes) x.place x.row entry.within entry.sender
        (ap (λ j. place_of_row (with_row e table) e.sender j) same ∙ entry.row)
        (λ i h other. other_node k e (get_or (arc_slice_items r.nodes) i 0) (other_sender i h other))

    -- and those of the other kind
    rows_of_other_kind : (k : Kind) → is_kind k (kind_of e.body) ≡ false → row_places table k (arc_slice_items r.nodes) ≡ row_places (with_row e table) k (arc_slice_items r.nodes)
    rows_of_other_kind k another_kind = places_kept table e k (arc_slice_items r.nodes) (λ i h. inl (of_other_kind k e (get_or (arc_slice_items r.nodes) i 0) another_kind))

    -- its form may join those of its kind
    joining : (k : Kind) → k ≡ kind_of e.body → AreCompiled (arc_slice_items r.nodes) (slices_by own configured table (other_kind k)) (forms_of (other_kind k) r)
        → AreCompiled (arc_slice_items r.nodes) (slices_by own configured table k) (forms_of k r) → AreBelow r.numbers (forms_of k r) → MayJoin (arc_slice_items r.nodes) (forms_of k r) x.numbers e.slices x.slices
    joining k same =
        subst (λ (j : Kind). AreCompiled (arc_slice_items r.nodes) (slices_by own configured table (other_kind j)) (forms_of (other_kind j) r) → AreCompiled (arc_slice_items r.nodes) (slices_by own configured table j) (forms_of j r) → AreBelow r.numbers (forms_of j r) → MayJoin (arc_slice_items r.nodes) (forms_of j r) x.numbers e.slices x.slices)
        (sym same) entry.form

    pub ballot_set : x.kind ≡ Kind.Ballot → (unshared : Unshared) → (v : Vec (Option Numbered) Global) → (x.place < length r.ballots.items → v.items ≡ set r.ballots.items x.place (Some x.slices))
        → (w : Vec (Option ℕ) Global) → (x.place < length r.ballot_rows.items → w.items ≡ set r.ballot_rows.items x.place x.row)
        → IsRegion own configured (with_row e table) (record r { ballots = v; ballot_rows = w; numbers = x.numbers; latest = x.place; unshared = unshared })
    ballot_set kind unshared v now w row_now =
        let is_now = now (omega (arith, entry.within, is.ballots.as_many)) in
        let row_is_now = row_now (omega (arith, entry.within, ap (λ (os : List (Option ℕ)). length os) is.ballot_rows, length-map (arc_slice_items r.nodes) (λ u. place_of_row table u Kind.Ballot))) in
        let k : Kind.Ballot ≡ kind_of e.body = sym kind ∙ entry.kind in
        let room : x.place < length r.ballots.items = omega (arith, entry.within, is.ballots.as_many) in
        let joins : MayJoin (arc_slice_items r.nodes) r.ballots.items x.numbers e.slices x.slices = joining Kind.Ballot k is.nominations is.ballots is.ballot_numbers in
        record {
          reach = reach;
          within = is.within;
          itself = is.itself;
          blocking = is.blocking;
          ballots = subst (λ (cs : List (Option Numbered)). AreCompiled (arc_slice_items r.nodes) (slices_by own configured (with_row e table) Kind.Ballot) cs) (sym is_now)
              (set_compiled own configured table e Kind.Ballot (arc_slice_items r.nodes) r.ballots.items x.place x.slices is.reach.ascending entry.within entry.sender another (ap (is_kind Kind.Ballot) (sym k)) joins.compiled joins.fits is.ballots);
          nominations = same_compiled own configured table e Nomination (arc_slice_items r.nodes) r.nominations.items (λ i h. inr (of_other_kind Nomination e (get_or (arc_slice_items r.nodes) i 0) (ap (is_kind Nomination) (sym k)))) is.nominations;
          ballot_rows = row_is_now ∙ ap (λ (os : List (Option ℕ)). set os x.place x.row) is.ballot_rows ∙ row_set Kind.Ballot k;
          nomination_rows = is.nomination_rows ∙ rows_of_other_kind Nomination (ap (is_kind Nomination) (sym k));
          ballot_numbers = subst (λ (cs : List (Option Numbered)). AreBelow x.numbers cs) (sym is_now) (below_set r.ballots.items x.place x.slices r.numbers x.numbers room entry.numbers joins.below is.ballot_numbers);
          nomination_numbers = below_more r.nominations.items r.numbers x.numbers entry.numbers is.nomination_numbers;
        }

    pub nomination_set : x.kind ≡ Nomination → (unshared : Unshared) → (v : Vec (Option Numbered) Global) → (x.place < length r.nominations.items → v.items ≡ set r.nominations.items x.place (Some x.slices))
        → (w : Vec (Option ℕ) Global) → (x.place < length r.nomination_rows.items → w.items ≡ set r.nomination_rows.items x.place x.row)
        → IsRegion own configured (with_row e table) (record r { nominations = v; nomination_rows = w; numbers = x.numbers; latest = x.place; unshared = unshared })
    nomination_set kind unshared v now w row_now =
        let is_now = now (omega (arith, entry.within, is.nominations.as_many)) in
        let row_is_now = row_now (omega (arith, entry.within, ap (λ (os : List (Option ℕ)). length os) is.nomination_rows, length-map (arc_slice_items r.nodes) (λ u. place_of_row table u Nomination))) in
        let k : Nomination ≡ kind_of e.body = sym kind ∙ entry.kind in
        let room : x.place < length r.nominations.items = omega (arith, entry.within, is.nominations.as_many) in
        let joins : MayJoin (arc_slice_items r.nodes) r.nominations.items x.numbers e.slices x.slices = joining Nomination k is.ballots is.nominations is.nomination_numbers in
        record {
          reach = reach;
          within = is.within;
          itself = is.itself;
          blocking = is.blocking;
          ballots = same_compiled own configured table e Kind.Ballot (arc_slice_items r.nodes) r.ballots.items (λ i h. inr (of_other_kind Kind.Ballot e (get_or (arc_slice_items r.nodes) i 0) (ap (is_kind Kind.Ballot) (sym k)))) is.ballots;
          nominations = subst (λ (cs : List (Option Numbered)). AreCompiled (arc_slice_items r.nodes) (slices_by own configured (with_row e table) Nomination) cs) (sym is_now)
              (set_compiled own configured table e Nomination (arc_slice_items r.nodes) r.nominations.items x.place x.slices is.reach.ascending entry.within entry.sender another (ap (is_kind Nomination) (sym k)) joins.compiled joins.fits is.nominations);
          ballot_rows = is.ballot_rows ∙ rows_of_other_kind Kind.Ballot (ap (is_kind Kind.Ballot) (sym k));
          nomination_rows = row_is_now ∙ ap (λ (os : List (Option ℕ)). set os x.place x.row) is.nomination_rows ∙ row_set Nomination k;
          ballot_numbers = below_more r.ballots.items r.numbers x.numbers entry.numbers is.ballot_numbers;
          nomination_numbers = subst (λ (cs : List (Option Numbered)). AreBelow x.numbers cs) (sym is_now) (below_set r.nominations.items x.place x.slices r.numbers x.numbers room entry.numbers joins.below is.nomination_numbers);
        }

-- ---- whom its slices name
-- the names of slices that a reached node has are reached, and those that were searched for are
pub names_in_reach : (own : ℕ) (configured : Slices) (table : List Sent) (k : Kind) (us : List ℕ) (fs : List (Option Numbered)) (n : ℕ) (q : Slices) (f : Numbered)
    → IsFoundWithin us (slices_by own configured table k) fs n q f → IsReach own configured table us → AreWithin (among (names q)) (among us)
names_in_reach own configured table k us fs n q f (inl twin) is =
    let w = get_or us twin.place 0 in is.closed k w q (list_any_at (λ y. y == w) us twin.place 0 twin.listed (eq-eqb w w refl)) twin.same
names_in_reach own configured table k us fs n q f (inr new) is = λ u inside. within-at (names q) (among us) u new.2 inside

pub names_by_either : (own : ℕ) (configured : Slices) (table : List Sent) (k j : Kind) (us : List ℕ) (fs others : List (Option Numbered)) (n : ℕ) (q : Slices) (f : Numbered)
    → IsFoundInEither us (slices_by own configured table k) fs (slices_by own configured table j) others n q f → IsReach own configured table us → AreWithin (among (names q)) (among us)
names_by_either own configured table k j us fs others n q f (inl found) is = names_in_reach own configured table k us fs n q f found is
names_by_either own configured table k j us fs others n q f (inr new) is = names_in_reach own configured table j us others n q new.1.0 (inl new.1.1) is

-- ---- a copy
pub copied : (old new : Region) → IsCopy old new → (own : ℕ) (configured : Slices) (table : List Sent) → IsRegion own configured table old → IsRegion own configured table new
copied old new same own configured table is = record {
  reach = subst (λ (us : List ℕ). IsReach own configured table us) (sym same.nodes) is.reach;
  within = omega (arith, is.within, same.place, ap (λ (us : List ℕ). length us) same.nodes);
  itself = (λ i. get_or (same.nodes i) (same.place i) 0) ∙ is.itself;
  blocking = subst (λ (p : List ℕ × Compiled). IsCompiled true p.0 configured p.1) (λ i. (sym same.nodes i, sym same.blocking i)) is.blocking;
  ballots = subst (λ (p : List ℕ × List (Option Numbered)). AreCompiled p.0 (slices_by own configured table Kind.Ballot) p.1) (λ i. (sym same.nodes i, sym same.ballots i)) is.ballots;
  nominations = subst (λ (p : List ℕ × List (Option Numbered)). AreCompiled p.0 (slices_by own configured table Nomination) p.1) (λ i. (sym same.nodes i, sym same.nominations i)) is.nominations;
  ballot_rows = same.ballot_rows ∙ is.ballot_rows ∙ ap (row_places table Kind.Ballot) (sym same.nodes);
  nomination_rows = same.nomination_rows ∙ is.nomination_rows ∙ ap (row_places table Nomination) (sym same.nodes);
  ballot_numbers = subst (λ (p : ℕ × List (Option Numbered)). AreBelow p.0 p.1) (λ i. (sym same.numbers i, sym same.ballots i)) is.ballot_numbers;
  nomination_numbers = subst (λ (p : ℕ × List (Option Numbered)). AreBelow p.0 p.1) (λ i. (sym same.numbers i, sym same.nominations i)) is.nomination_numbers;
}
