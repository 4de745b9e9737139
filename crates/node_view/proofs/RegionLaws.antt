-- The two tests over places are those of the definitions, and rows with the same slices leave a region as it is.
use Rattle.std.specs.Arc.{arc_slice_items}
use Rattle.std.proofs.Common.{◌≡◌, ℕ, suc, ◌+◌, ◌<◌, Bool, true, false, cond, ◌==◌, ◌&&◌, List, [], ◌∷◌, filter, get_or, length, nat_lt, Option, Some, None, option_map, if◌then◌else◌, IsTrue, ◌↔◌, refl, sym, subst, ◌∙◌, ap, arith, inl, inr}
use Rattle.std.proofs.lemmas.Bool.{cases_Bool, true≢false, eq-eqb, false_from_ne_true, lt-ltb, le-ltb}
use Rattle.std.proofs.lemmas.List.{get_or_default}
use Rattle.std.proofs.lemmas.List.Folds.{list_any_at}
use Rattle.scp_types.specs.Trees.{Slices}
use Rattle.scp_types.specs.declared.kind.Kind.{Kind}
use Rattle.scp_types.specs.declared.kind.Kind.TheVariants.{Nomination}
use Rattle.scp_types.specs.declared.statement.Statement.{Statement}
use Rattle.scp_types.specs.Statements.{Sent, kind_of}
use Rattle.scp_spec.specs.Sets.{Names, among, IsAscending}
use Rattle.scp_spec.specs.Satisfaction.{sat, is_blocked, names}
use Rattle.scp_spec.specs.Quorums.{HasQuorum, is_satisfied}
use Rattle.scp_spec.specs.Backing.{slices_by}
use Rattle.scp_spec.specs.Reach.{IsReach}
use Rattle.scp_spec.specs.Rows.{row, with_row, is_row_of}
use Rattle.scp_spec.specs.Views.{passing_with, blocking_passes, seen}
use Rattle.scp_spec.proofs.Nodes.Views.{is_blocked-local}
use Rattle.scp_spec.proofs.Slices.Quorums.{is_satisfied-more}
use Rattle.scp_spec.proofs.Slices.Satisfaction.{sat_local, sat_monotone}
use Rattle.scp_slices.proofs.Kept.{among-filter, among-from_filter}
use Rattle.scp_voting.proofs.Honesty.{names_reached}
use Rattle.scp_spec.proofs.Statements.Offers.{row-with, is_row_of-parts}
use Rattle.node_view.proofs.ReachKept.{KeepsReach}
use Rattle.node_view.proofs.ReachKept.KeepsReach.{stranger, same_slices}
use Rattle.node_view.proofs.QuorumLaws.{from_all, quorum_of_all}
use Rattle.scp_bits.specs.Asking.{ArePassing}
use Rattle.scp_bits.specs.Places.{bit_of, Numbered}
use Rattle.scp_bits.specs.Met.{has_needed, nodes_at, nodes_at_from, one_where}
use Rattle.scp_bits.specs.Searching.{AreCompiled, met_at}
use Rattle.node_view.specs.declared.region.Region.{Region}
use Rattle.node_view.specs.Regions.{IsRegion, row_places}
use Rattle.node_view.specs.Watching.{RowsOfNodes, passes_at, passes_within}
use Rattle.scp_bits.proofs.PassingWords.{passing_words}
use Rattle.node_view.proofs.PlaceLaws.{places_kept}
use Rattle.node_view.proofs.Sightings.{itself_reached, quorum_tested}

-- the bits are those of who is in the set
abbrev pub AreBits : List ℕ → List ℕ → Names → Type 0
AreBits us ws p = (i : ℕ) → i < length us → bit_of ws i ≡ one_where (p (get_or us i 0))

-- the words of all who pass among so many nodes are their bits
pub bits_within : (us ws : List ℕ) (p : Names) → ArePassing (λ i. nat_lt i (length us) && p (get_or us i 0)) ws → AreBits us ws p
bits_within us ws p are i within = are.bits i ∙ ap (λ b. one_where (b && p (get_or us i 0))) (lt-ltb i (length us) within)

-- a number is a test's where it is one exactly then
pub one_is : (b : Bool) → (one_where b == 1) ≡ b
one_is true = refl
one_is false = refl

filter_from : (us : List ℕ) (j : ℕ) (ws : List ℕ) (p : Names) → ((i : ℕ) → i < length us → bit_of ws (j + i) ≡ one_where (p (get_or us i 0))) → nodes_at_from j us ws ≡ filter p us
filter_from [] j ws p h = refl
filter_from (u ∷ us) j ws p h =
    let first : (bit_of ws j == 1) ≡ p u = ap (λ n. bit_of ws n == 1) (omega arith) ∙ (ap (λ d. d == 1) (h 0 (omega arith)) ∙ one_is (p u)) in
    let rest = filter_from us (suc j) ws p (λ i l. ap (bit_of ws) (omega arith) ∙ h (suc i) (omega arith)) in
    λ i. cond (first i) (u ∷ rest i) (rest i)

-- the nodes at the places are those of the set
pub picked_is : (us ws : List ℕ) (p : Names) → AreBits us ws p → nodes_at us ws ≡ filter p us
picked_is us ws p h = filter_from us 0 ws p (λ i l. ap (bit_of ws) (omega arith) ∙ h i l)

module _ (own : ℕ) (configured : Slices) (table : List Sent) (r : Region) (is : IsRegion own configured table r) where
  -- a quorum over places is one among all who pass
  pub quorum_found : (kind : Kind) (cs : List (Option Numbered)) → AreCompiled (arc_slice_items r.nodes) (slices_by own configured table kind) cs
      → (ws : List ℕ) (p : Names) → AreBits (arc_slice_items r.nodes) ws p → (b : Bool)
      → ((us : List ℕ) (slices_at : ℕ → Option Slices) → IsAscending us → AreCompiled us slices_at cs → IsTrue b ↔ HasQuorum sat slices_at (among (nodes_at us ws)) (get_or us r.place 0))
      → IsTrue b ↔ HasQuorum sat (slices_by own configured table kind) p own
  quorum_found kind cs compiled ws p bits b found =
      let us = (arc_slice_items r.nodes) in
      let slices_at = slices_by own configured table kind in
      let over_places = found us slices_at is.reach.ascending compiled in
      let among_reached = subst (λ (vs : List ℕ). IsTrue b ↔ HasQuorum sat slices_at (among vs) own) (picked_is us ws p bits)
      (subst (λ v. IsTrue b ↔ HasQuorum sat slices_at (among (nodes_at us ws)) v) is.itself over_places) in
      quorum_of_all sat names slices_at sat_local p us (is.reach.closed kind) own (itself_reached own configured table us is.reach.exactly) b among_reached

-- whoever is reached is at a place of the set where it is one of them
picked_where : (us ws : List ℕ) (p : Names) (u : ℕ) → AreBits us ws p → among us u ≡ true → among (nodes_at us ws) u ≡ p u
picked_where us ws p u bits reached = ap (λ (vs : List ℕ). among vs u) (picked_is us ws p bits) ∙ go (p u) refl
  where
    go : (b : Bool) → p u ≡ b → among (filter p us) u ≡ b
    go true passes = among-filter p us u reached passes
    go false fails = false_from_ne_true (among (filter p us) u) (λ h. true≢false (sym (among-from_filter p us u h).1 ∙ fails))

module _ (own : ℕ) (configured : Slices) (table : List Sent) (r : Region) (is : IsRegion own configured table r) where
  -- places of all who pass meet what blocks where these block
  pub blocking_found : (ws : List ℕ) (p : Names) → AreBits (arc_slice_items r.nodes) ws p → has_needed r.blocking ws ≡ is_blocked configured p
  blocking_found ws p bits =
      let us = (arc_slice_items r.nodes) in
      is.blocking ws ∙ is_blocked-local configured (among (nodes_at us ws)) p (λ u named. picked_where us ws p u bits (is.reach.exactly u ∙ names_reached own configured table u named))

  -- where those who pass do not satisfy the node's slices, no quorum that contains it all passes
  none_unsatisfied : (kind : Kind) (cs : List (Option Numbered)) → AreCompiled (arc_slice_items r.nodes) (slices_by own configured table kind) cs
      → (ws : List ℕ) (p : Names) → AreBits (arc_slice_items r.nodes) ws p → met_at (get_or cs r.place None) ws ≡ false → HasQuorum sat (slices_by own configured table kind) p own → ⊥
  none_unsatisfied kind cs compiled ws p bits fails h =
      let us = (arc_slice_items r.nodes) in
      let slices_at = slices_by own configured table kind in
      let k = from_all sat names slices_at sat_local p us (is.reach.closed kind) own (itself_reached own configured table us is.reach.exactly) h in
      let more : is_satisfied sat (slices_at own) (among (filter p us)) ≡ true = is_satisfied-more sat slices_at sat_monotone (slices_at own) k.set (among (filter p us)) k.within (k.quorum.each own k.member) in
      let there : met_at (get_or cs r.place None) ws ≡ is_satisfied sat (slices_at own) (among (filter p us)) =
      compiled.each r.place is.within ws ∙ (λ i. is_satisfied sat (slices_at (is.itself i)) (among (picked_is us ws p bits i))) in
      true≢false (sym more ∙ (sym there ∙ fails))

blocking_seen : (own : ℕ) (q : Slices) (leaders : List ℕ) (table : List Sent) (k : Kind) (own_passes : Bool) (test : Statement → Bool)
    → (seen own q leaders table).blocking k own_passes test ≡ is_blocked q (passing_with own table k own_passes test)
unfolding seen blocking_passes
blocking_seen own q leaders table k own_passes test = refl

-- the two tests, by the rows that are asked
module _ (own : ℕ) (configured : Slices) (leaders : List ℕ) (table : List Sent) (r : Region) (is : IsRegion own configured table r) (kind : Kind) (own_passes : Bool) (test : Statement → Bool)
    (k : RowsOfNodes) (rows : k ≡ record { nodes = (arc_slice_items r.nodes); table = table; kind = kind }) where
  abbrev passing : Names
  passing = passing_with own table kind own_passes test

  -- words of all who pass by these rows
  abbrev AreAsked : List ℕ → Type 0
  AreAsked ws = (i : ℕ) → i < length k.nodes → bit_of ws i ≡ one_where (passes_at k r.place own_passes test i)

  bits_asked : (ws : List ℕ) → AreAsked ws → AreBits (arc_slice_items r.nodes) ws passing
  bits_asked ws asked =
      subst (λ u. AreBits (arc_slice_items r.nodes) ws (passing_with u table kind own_passes test)) is.itself
      (subst (λ (p : RowsOfNodes). (i : ℕ) → i < length p.nodes → bit_of ws i ≡ one_where (passes_at p r.place own_passes test i)) rows asked)

  supporting_words : (ws : List ℕ) × ArePassing (passes_within k r.place own_passes test) ws × AreBits (arc_slice_items r.nodes) ws passing
  supporting_words =
      let us = (arc_slice_items r.nodes) in
      let reached : RowsOfNodes = record { nodes = us; table = table; kind = kind } in
      let by_place : ℕ → Names = λ u. passing_with u table kind own_passes test in
      let found = passing_words (length us) (passes_within reached r.place own_passes test) (omega (arith, r.nodes.items.value.small)) (λ i out. ap (λ b. b && passes_at reached r.place own_passes test i) (le-ltb i (length us) out)) in (
        found.0,
        subst (λ (p : RowsOfNodes). ArePassing (passes_within p r.place own_passes test) found.0) (sym rows) found.1,
        subst (λ u. AreBits us found.0 (by_place u)) is.itself (bits_within us found.0 (by_place (get_or us r.place 0)) found.1),
      )

  pub quorum_asked : (cs : List (Option Numbered)) → AreCompiled (arc_slice_items r.nodes) (slices_by own configured table kind) cs → (ws : List ℕ) → AreAsked ws → (b : Bool)
      → ((us : List ℕ) (slices_at : ℕ → Option Slices) → IsAscending us → AreCompiled us slices_at cs → IsTrue b ↔ HasQuorum sat slices_at (among (nodes_at us ws)) (get_or us r.place 0))
      → b ≡ (seen own configured leaders table).quorum kind own_passes test
  quorum_asked cs compiled ws asked b found = quorum_tested own configured leaders table kind own_passes test b (quorum_found own configured table r is kind cs compiled ws passing (bits_asked ws asked) b found)

  pub blocking_asked : (ws : List ℕ) → AreAsked ws → has_needed r.blocking ws ≡ (seen own configured leaders table).blocking kind own_passes test
  blocking_asked ws asked = blocking_found own configured table r is ws passing (bits_asked ws asked) ∙ sym (blocking_seen own configured leaders table kind own_passes test)

  -- the same where those who pass are asked one by one
  pub blocking_met : (b : Bool) → ((ws : List ℕ) → ArePassing (passes_within k r.place own_passes test) ws → b ≡ has_needed r.blocking ws) → b ≡ (seen own configured leaders table).blocking kind own_passes test
  blocking_met b met = met supporting_words.0 supporting_words.1 ∙ blocking_found own configured table r is supporting_words.0 passing supporting_words.2 ∙ sym (blocking_seen own configured leaders table kind own_passes test)

  -- and where they do not meet its own form, no quorum that contains it all passes
  pub none_where_unmet : (cs : List (Option Numbered)) → AreCompiled (arc_slice_items r.nodes) (slices_by own configured table kind) cs → (o : Option Numbered) → o ≡ get_or cs r.place o
      → (b : Bool) → ((ws : List ℕ) → ArePassing (passes_within k r.place own_passes test) ws → b ≡ met_at o ws) → b ≡ false
      → (seen own configured leaders table).quorum kind own_passes test ≡ false
  none_where_unmet cs compiled o there b met fails =
      let within : r.place < length cs = omega (arith, is.within, compiled.as_many) in
      let own_form : get_or cs r.place None ≡ o = get_or_default cs r.place None o within ∙ sym there in
      let unmet : met_at (get_or cs r.place None) supporting_words.0 ≡ false = ap (λ (x : Option Numbered). met_at x supporting_words.0) own_form ∙ (sym (met supporting_words.0 supporting_words.1) ∙ fails) in
      let none = none_unsatisfied own configured table r is kind cs compiled supporting_words.0 passing supporting_words.2 unmet in
      sym (quorum_tested own configured leaders table kind own_passes test false (λ h. absurd (true≢false (sym h)), λ h. absurd (none h)))

-- ---- a row that leaves the reach leaves the slices of all that are reached
row_slices : (us : List ℕ) (table : List Sent) (e : Sent) → KeepsReach us table e → (u : ℕ) (k : Kind) → among us u ≡ true → is_row_of u k e ≡ true
    → option_map (λ (x : Sent). x.slices) (row table u k) ≡ Some e.slices
row_slices us table e (stranger n) u k inside here =
    let p = is_row_of-parts u k e here in absurd (true≢false (sym inside ∙ (ap (among us) (sym p.0) ∙ n)))
row_slices us table e (same_slices s) u k inside here =
    let p = is_row_of-parts u k e here in
    subst (λ (j : Kind). option_map (λ (x : Sent). x.slices) (row table u j) ≡ Some e.slices) p.1
    (subst (λ w. option_map (λ (x : Sent). x.slices) (row table w (kind_of e.body)) ≡ Some e.slices) p.0 s)

slices_stay : (us : List ℕ) (table : List Sent) (e : Sent) → KeepsReach us table e → (own : ℕ) (configured : Slices) (k : Kind) (u : ℕ) → among us u ≡ true
    → slices_by own configured table k u ≡ slices_by own configured (with_row e table) k u
slices_stay us table e keeps own configured k u inside = ap (λ (o : Option Slices). if own == u then Some configured else o) (elim (cases_Bool (is_row_of u k e)) [
  | inl h ↦ row_slices us table e keeps u k inside h ∙ sym (ap (option_map (λ (x : Sent). x.slices)) (row-with e table u k ∙ ap (λ b. if b then Some e else row table u k) h))
  | inr h ↦ sym (ap (option_map (λ (x : Sent). x.slices)) (row-with e table u k ∙ ap (λ b. if b then Some e else row table u k) h))
])

compiled_stay : (us : List ℕ) (table : List Sent) (e : Sent) → KeepsReach us table e → (own : ℕ) (configured : Slices) (k : Kind) (cs : List (Option Numbered))
    → AreCompiled us (slices_by own configured table k) cs → AreCompiled us (slices_by own configured (with_row e table) k) cs
compiled_stay us table e keeps own configured k cs are = record {
  as_many = are.as_many;
  each = λ i h ws.
      let u = get_or us i 0 in
      let inside : among us u ≡ true = list_any_at (λ y. y == u) us i 0 h (eq-eqb u u refl) in
      are.each i h ws ∙ ap (λ (o : Option Slices). is_satisfied sat o (among (nodes_at us ws))) (slices_stay us table e keeps own configured k u inside);
  agreed = are.agreed;
}

-- ---- and the places of their rows
row_there : (o : Option Sent) (q : Slices) → option_map (λ (x : Sent). x.slices) o ≡ Some q → (r : Sent) × (o ≡ Some r)
row_there None q h = cc
row_there (Some r) q h = (r, refl)

places_stay : (us : List ℕ) (table : List Sent) (e : Sent) → KeepsReach us table e → (k : Kind) → row_places table k us ≡ row_places (with_row e table) k us
places_stay us table e keeps k = places_kept table e k us (λ i h.
    let u = get_or us i 0 in
    elim (cases_Bool (is_row_of u k e)) [
      | inl its ↦ inr (row_there (row table u k) e.slices (row_slices us table e keeps u k (list_any_at (λ y. y == u) us i 0 h (eq-eqb u u refl)) its))
      | inr other ↦ inl other
    ])

pub region_kept : (r : Region) (table : List Sent) (e : Sent) → KeepsReach (arc_slice_items r.nodes) table e → (own : ℕ) (configured : Slices)
    → IsRegion own configured table r → IsReach own configured (with_row e table) (arc_slice_items r.nodes) → IsRegion own configured (with_row e table) r
region_kept r table e keeps own configured is reach = record {
  reach = reach;
  within = is.within;
  itself = is.itself;
  blocking = is.blocking;
  ballots = compiled_stay (arc_slice_items r.nodes) table e keeps own configured Kind.Ballot r.ballots.items is.ballots;
  nominations = compiled_stay (arc_slice_items r.nodes) table e keeps own configured Nomination r.nominations.items is.nominations;
  ballot_rows = is.ballot_rows ∙ places_stay (arc_slice_items r.nodes) table e keeps Kind.Ballot;
  nomination_rows = is.nomination_rows ∙ places_stay (arc_slice_items r.nodes) table e keeps Nomination;
  ballot_numbers = is.ballot_numbers;
  nomination_numbers = is.nomination_numbers;
}
