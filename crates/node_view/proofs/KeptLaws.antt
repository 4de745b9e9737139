-- What stays of a region, whatever row comes: all but the rows of its sender.
use Rattle.std.specs.Arc.{arc_slice_items}
use Rattle.std.proofs.Common.{◌≡◌, ℕ, ◌&&◌, List, get_or, Option, None, sym, ◌∙◌, ap, inr}
use Rattle.std.proofs.lemmas.Bool.{ne_eqb}
use Rattle.std.proofs.lemmas.List.{get_or-map}
use Rattle.scp_types.specs.Trees.{Slices}
use Rattle.scp_types.specs.declared.kind.Kind.{Kind}
use Rattle.scp_types.specs.declared.kind.Kind.TheVariants.{Nomination}
use Rattle.scp_types.specs.Statements.{Sent, kind_of}
use Rattle.scp_spec.specs.Backing.{slices_by}
use Rattle.scp_spec.specs.Quorums.{is_satisfied}
use Rattle.scp_spec.specs.Reach.{IsReach}
use Rattle.scp_spec.specs.Rows.{is_kind, with_row}
use Rattle.scp_spec.specs.Satisfaction.{sat}
use Rattle.scp_spec.specs.Sets.{among}
use Rattle.scp_bits.specs.Met.{nodes_at}
use Rattle.scp_bits.specs.Places.{Numbered}
use Rattle.scp_bits.specs.Searching.{AreCompiled}
use Rattle.node_table.specs.Places.{place_of_row}
use Rattle.node_table.proofs.Placing.{place-of_others}
use Rattle.node_reach.specs.Searching.{ArePlacesBut}
use Rattle.node_view.specs.declared.region.Region.{Region}
use Rattle.node_view.specs.Forms.{AreFormsBut, NameWithinBut}
use Rattle.node_view.proofs.EntryLaws.{slices_same}
use Rattle.node_view.specs.Regions.{IsKeptRegion, IsRegion, row_places}

-- the rows of all but the sender stand where they stood
places_but : (table : List Sent) (e : Sent) (k : Kind) (us : List ℕ) (places : List (Option ℕ)) → places ≡ row_places table k us → ArePlacesBut e.sender (with_row e table) k us places
places_but table e k us places are i h other =
    let u = get_or us i 0 in
    ap (λ (os : List (Option ℕ)). get_or os i None) are
    ∙ (get_or-map (λ v. place_of_row table v k) us i 0 None h
    ∙ sym (place-of_others e table u k (ap (λ b. b && is_kind k (kind_of e.body)) (ne_eqb e.sender u (λ same. other (sym same))))))

-- and their slices are compiled as they were
forms_but : (own : ℕ) (configured : Slices) (table : List Sent) (e : Sent) (k : Kind) (us : List ℕ) (cs : List (Option Numbered)) → AreCompiled us (slices_by own configured table k) cs
    → AreFormsBut e.sender us (slices_by own configured (with_row e table) k) cs
forms_but own configured table e k us cs are i h other ws =
    let u = get_or us i 0 in
    let another = ap (λ b. b && is_kind k (kind_of e.body)) (ne_eqb e.sender u (λ same. other (sym same))) in
    are.each i h ws ∙ ap (λ (o : Option Slices). is_satisfied sat o (among (nodes_at us ws))) (slices_same own configured table e k u (inr another))

-- and name none but reached nodes
names_but : (own : ℕ) (configured : Slices) (table : List Sent) (e : Sent) (k : Kind) (us : List ℕ) → IsReach own configured table us → NameWithinBut e.sender us (slices_by own configured (with_row e table) k)
names_but own configured table e k us reach u q there other its =
    reach.closed k u q there (slices_same own configured table e k u (inr (ap (λ b. b && is_kind k (kind_of e.body)) (ne_eqb e.sender u (λ same. other (sym same))))) ∙ its)

pub kept_region : (own : ℕ) (configured : Slices) (table : List Sent) (e : Sent) (r : Region) → IsRegion own configured table r → IsKeptRegion own configured (with_row e table) e.sender r
kept_region own configured table e r is =
    let us = (arc_slice_items r.nodes) in
    record {
      ascending = is.reach.ascending;
      ballots = forms_but own configured table e Kind.Ballot us r.ballots.items is.ballots;
      nominations = forms_but own configured table e Nomination us r.nominations.items is.nominations;
      ballot_names = names_but own configured table e Kind.Ballot us is.reach;
      nomination_names = names_but own configured table e Nomination us is.reach;
      ballot_rows = places_but table e Kind.Ballot us r.ballot_rows.items is.ballot_rows;
      nomination_rows = places_but table e Nomination us r.nomination_rows.items is.nomination_rows;
    }
