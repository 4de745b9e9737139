use Rattle.std.specs.Arc.{arc_slice_items}
use Rattle.std.proofs.Common.{◌≡◌, ◌∙◌, IfSome, Option, ap, refl, subst, sym}
use Rattle.std.proofs.lemmas.Bool.{true≢false}
use Rattle.scp_types.specs.declared.kind.Kind.{Kind}
use Rattle.scp_types.specs.declared.kind.Kind.TheVariants.{Nomination}
use Rattle.scp_types.specs.Statements.{kind_of}
use Rattle.node_view.specs.Knowing.{AreBallotsOf, AreValuesOf}
use Rattle.node_view.specs.declared.reached_ballots.ReachedBallots.{ReachedBallots}
use Rattle.node_view.specs.declared.reached_values.ReachedValues.{ReachedValues}
use Rattle.node_view.proofs.Following.{heard_kind, unheard_itself, unheard_kind}
use Rattle.node_view.proofs.Knowing.{unheard_listed}
use Rattle.node_view.proofs.Standings.{found_nowhere, found_other, found_there, of_itself}
use Rattle.node_view.proofs.Widening.{unheard_values}
use Rattle.node_view.proofs.known_reach.KnownReach.hear.Goals as goal

pub returns-in_default-clause-ballots : goal.returns-in_default-clause-ballots
returns-in_default-clause-ballots g c = λ old taken are.
    let own = c.args.own.name.now in
    let nodes = (arc_slice_items c.args.self.now.region.nodes) in
    let e = c.args.taken.now.row.now in
    unheard_listed own nodes old c.args.table.now e (unheard_itself Kind.Ballot own nodes e (found_nowhere own nodes e c.args.there c.requires.there c.in_default.is)) taken.now c.args.self.now.ballots are

pub returns-in_default-clause-values : goal.returns-in_default-clause-values
returns-in_default-clause-values g c = λ old taken are.
    let own = c.args.own.name.now in
    let nodes = (arc_slice_items c.args.self.now.region.nodes) in
    let e = c.args.taken.now.row.now in
    unheard_values own nodes old c.args.table.now e (unheard_itself Nomination own nodes e (found_nowhere own nodes e c.args.there c.requires.there c.in_default.is)) taken.now c.args.self.now.values are

pub returns-then-is_own-clause-ballots : goal.returns-then-is_own-clause-ballots
returns-then-is_own-clause-ballots g c = λ old taken are.
    let own = c.args.own.name.now in
    let nodes = (arc_slice_items c.args.self.now.region.nodes) in
    let e = c.args.taken.now.row.now in
    unheard_listed own nodes old c.args.table.now e (unheard_itself Kind.Ballot own nodes e (of_itself own nodes e (sym c.is_own.ensures ∙ c.if-is_own.true))) taken.now c.args.self.now.ballots are

pub returns-then-is_own-clause-values : goal.returns-then-is_own-clause-values
returns-then-is_own-clause-values g c = λ old taken are.
    let own = c.args.own.name.now in
    let nodes = (arc_slice_items c.args.self.now.region.nodes) in
    let e = c.args.taken.now.row.now in
    unheard_values own nodes old c.args.table.now e (unheard_itself Nomination own nodes e (of_itself own nodes e (sym c.is_own.ensures ∙ c.if-is_own.true))) taken.now c.args.self.now.values are

pub returns-in-Ballot-clause-other : goal.returns-in-Ballot-clause-other
returns-in-Ballot-clause-other g c = λ out.
    let own = c.args.own.name.now in
    let nodes = (arc_slice_items c.args.self.now.region.nodes) in
    let e = c.args.taken.now.row.now in
    absurd (true≢false (sym (found_other own nodes e c.args.there c.in-Some.there c.requires.there c.in-Some.is (sym c.is_own.ensures ∙ c.if-is_own.false)) ∙ out))

pub returns-in-Ballot-clause-same_ballots : goal.returns-in-Ballot-clause-same_ballots
returns-in-Ballot-clause-same_ballots g c = λ out.
    let own = c.args.own.name.now in
    let nodes = (arc_slice_items c.args.self.now.region.nodes) in
    let e = c.args.taken.now.row.now in
    let kind : kind_of e.body ≡ Kind.Ballot = ap kind_of (sym c.body.ensures.value) ∙ sym c.kind.ensures ∙ c.in-Ballot.is in
    absurd (true≢false (sym (heard_kind Kind.Ballot own nodes e kind refl (found_other own nodes e c.args.there c.in-Some.there c.requires.there c.in-Some.is (sym c.is_own.ensures ∙ c.if-is_own.false))) ∙ out))

pub returns-in-Nomination-clause-other : goal.returns-in-Nomination-clause-other
returns-in-Nomination-clause-other g c = λ out.
    let own = c.args.own.name.now in
    let nodes = (arc_slice_items c.args.self.now.region.nodes) in
    let e = c.args.taken.now.row.now in
    absurd (true≢false (sym (found_other own nodes e c.args.there c.in-Some.there c.requires.there c.in-Some.is (sym c.is_own.ensures ∙ c.if-is_own.false)) ∙ out))

pub returns-in-Nomination-clause-same_values : goal.returns-in-Nomination-clause-same_values
returns-in-Nomination-clause-same_values g c = λ out.
    let own = c.args.own.name.now in
    let nodes = (arc_slice_items c.args.self.now.region.nodes) in
    let e = c.args.taken.now.row.now in
    let kind : kind_of e.body ≡ Nomination = ap kind_of (sym c.body.ensures.value) ∙ sym c.kind.ensures ∙ c.in-Nomination.is in
    absurd (true≢false (sym (heard_kind Nomination own nodes e kind refl (found_other own nodes e c.args.there c.in-Some.there c.requires.there c.in-Some.is (sym c.is_own.ensures ∙ c.if-is_own.false))) ∙ out))

pub follow_ballots-requires : goal.follow_ballots-requires
follow_ballots-requires g c =
    let own = c.args.own.name.now in
    let nodes = (arc_slice_items c.args.self.now.region.nodes) in
    let e = c.args.taken.now.row.now in
    let there = found_there nodes e.sender c.args.there c.in-Some.there c.requires.there c.in-Some.is in
    let kind : kind_of e.body ≡ Kind.Ballot = ap kind_of (sym c.body.ensures.value) ∙ sym c.kind.ensures ∙ c.in-Ballot.is in
    record {
      region = c.requires.region;
      within = there.0;
      sender = there.1;
      heard = heard_kind Kind.Ballot own nodes e kind refl (found_other own nodes e c.args.there c.in-Some.there c.requires.there c.in-Some.is (sym c.is_own.ensures ∙ c.if-is_own.false));
    }

pub follow_values-requires : goal.follow_values-requires
follow_values-requires g c =
    let own = c.args.own.name.now in
    let nodes = (arc_slice_items c.args.self.now.region.nodes) in
    let e = c.args.taken.now.row.now in
    let there = found_there nodes e.sender c.args.there c.in-Some.there c.requires.there c.in-Some.is in
    let kind : kind_of e.body ≡ Nomination = ap kind_of (sym c.body.ensures.value) ∙ sym c.kind.ensures ∙ c.in-Nomination.is in
    record {
      region = c.requires.region;
      within = there.0;
      sender = there.1;
      heard = heard_kind Nomination own nodes e kind refl (found_other own nodes e c.args.there c.in-Some.there c.requires.there c.in-Some.is (sym c.is_own.ensures ∙ c.if-is_own.false));
    }

pub returns-in-Ballot-clause-values : goal.returns-in-Ballot-clause-values
returns-in-Ballot-clause-values g c = λ old taken are.
    let own = c.args.own.name.now in
    let nodes = (arc_slice_items c.args.self.now.region.nodes) in
    let e = c.args.taken.now.row.now in
    let kind : kind_of e.body ≡ Kind.Ballot = ap kind_of (sym c.body.ensures.value) ∙ sym c.kind.ensures ∙ c.in-Ballot.is in
    subst (λ (o : Option ReachedValues). IfSome o (λ v. AreValuesOf own c.args.table.now nodes v)) (sym c.follow_ballots.ensures.values)
    (unheard_values own nodes old c.args.table.now e (unheard_kind Nomination Kind.Ballot own nodes e kind refl) taken.now c.args.self.now.values are)

pub returns-in-Nomination-clause-ballots : goal.returns-in-Nomination-clause-ballots
returns-in-Nomination-clause-ballots g c = λ old taken are.
    let own = c.args.own.name.now in
    let nodes = (arc_slice_items c.args.self.now.region.nodes) in
    let e = c.args.taken.now.row.now in
    let kind : kind_of e.body ≡ Nomination = ap kind_of (sym c.body.ensures.value) ∙ sym c.kind.ensures ∙ c.in-Nomination.is in
    subst (λ (o : Option ReachedBallots). IfSome o (λ b. AreBallotsOf own c.args.table.now nodes b)) (sym c.follow_values.ensures.ballots)
    (unheard_listed own nodes old c.args.table.now e (unheard_kind Kind.Ballot Nomination own nodes e kind refl) taken.now c.args.self.now.ballots are)

pub returns-in-Nomination-clause-values : goal.returns-in-Nomination-clause-values
returns-in-Nomination-clause-values g c = λ old taken are. c.follow_values.ensures.values old _ taken are
