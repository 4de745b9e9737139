use Rattle.std.proofs.Common.{rules, arith, ◌≡◌, IsTrue, List, ℕ, ap, length, sym, subst}
use Rattle.scp_spec.specs.Reach.{IsReach}
use Rattle.scp_spec.specs.Sets.{among}
use Rattle.scp_types.specs.declared.kind.Kind.{Kind}
use Rattle.scp_types.specs.declared.kind.Kind.TheVariants.{Nomination}
use Rattle.node_view.specs.Regions.{row_places}
use Rattle.node_view.specs.Forms.{AreBelow}
use Rattle.node_view.proofs.Sightings.{itself_reached}
use Rattle.node_view.proofs.region.Region.over.Goals as goal

pub place_in-place-requires-clause-listed : goal.place_in-place-requires-clause-listed
place_in-place-requires-clause-listed g c =
    let own = c.args.own.name.now in
    subst (λ (us : List ℕ). IsTrue (among us own)) (sym c.deref.ensures.value) (itself_reached own c.args.own.slices.now c.args.table.now c.args.placed.nodes.items c.requires.placed.reach.exactly)

pub returns : goal.returns
returns g c =
    let us = c.args.placed.nodes.items in
    let ballots = c.in_ok-forms.ensures.ballots in
    let nominations = c.in_ok-forms.ensures.nominations in
    let counted : length us ≡ c.len-numbers.result = omega (arith, c.len-numbers.ensures, c.deref.ensures.len, ap (λ (vs : List ℕ). length vs) c.deref.ensures.value) in
    let e = c.in_ok-from_vec.ensures in
    record {
      reach = subst (λ vs. IsReach c.args.own.name.now c.args.own.slices.now c.args.table.now vs) (sym e) c.requires.placed.reach;
      within = search rules;
      itself = search rules;
      blocking = search rules;
      ballots = search rules;
      nominations = search rules;
      ballot_rows = subst (λ vs. c.args.placed.rows.ballots.items ≡ row_places c.args.table.now Kind.Ballot vs) (sym e) c.requires.placed.rows.ballots;
      nomination_rows = subst (λ vs. c.args.placed.rows.nominations.items ≡ row_places c.args.table.now Nomination vs) (sym e) c.requires.placed.rows.nominations;
      ballot_numbers = subst (λ n. AreBelow n c.in_ok-forms.forms.ballots.items) counted ballots.below;
      nomination_numbers = subst (λ n. AreBelow n c.in_ok-forms.forms.nominations.items) counted nominations.below;
    }
