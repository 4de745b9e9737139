use Rattle.std.proofs.Common.{◌≡◌, ◌∙◌, ◌||◌, Some, None, Bor, option_map, refl, sym, ap}
use Rattle.scp_types.specs.Statements.{Sent, kind_of}
use Rattle.scp_spec.specs.Rows.{row}
use Rattle.scp_spec.specs.Satisfaction.{names}
use Rattle.scp_spec.specs.Sets.{also, among, within}
use Rattle.node_reach.specs.Keeping.{kept_names}
use Rattle.node_reach.proofs.Dropped.{dropped_found, narrow_now, none_dropped, reach_stays}
use Rattle.node_reach.proofs.keeping.drops_none.Goals as goal

pub returns-in-None-clause-stays : goal.returns-in-None-clause-stays
returns-in-None-clause-stays g c =
    let t = c.args.table.now in
    let e = c.args.envelope.now in
    let kind = c.kind.ensures ∙ ap kind_of c.body.ensures.value in
    let none : None ≡ row t e.sender (kind_of e.body) =
    ap (option_map (λ (r : Bor Sent). r.now)) (sym c.in-None.is) ∙ (c.row.ensures ∙ (λ i. row t (c.sender.ensures.value i) (kind i))) in
    λ yes reach brings is. reach_stays c.args.node.now c.args.slices.now t reach e ((none_dropped c.args.node.now c.args.slices.now t e none).0 refl) brings is

pub returns-in_ok-kept-in-Some-clause-exactly : goal.returns-in_ok-kept-in-Some-clause-exactly
returns-in_ok-kept-in-Some-clause-exactly g c =
    let t = c.args.table.now in
    let e = c.args.envelope.now in
    let r = c.in-Some.row.now in
    let kind = c.kind.ensures ∙ ap kind_of c.body.ensures.value in
    let there : Some r ≡ row t e.sender (kind_of e.body) =
    ap (option_map (λ (r : Bor Sent). r.now)) (sym c.in-Some.is) ∙ (c.row.ensures ∙ (λ i. row t (c.sender.ensures.value i) (kind i))) in
    let found : c.in_ok-kept-in-Some.kept ≡ within (names r.slices) (kept_names c.args.node.now c.args.slices.now e) =
    c.in_ok-kept-in-Some.ensures ∙ (λ i. within (names (c.slices.ensures i)) (λ u. among (names (c.slices-in-Some.ensures i)) u || also c.args.node.now (among (names c.args.slices.now)) u)) in
    dropped_found c.args.node.now c.args.slices.now t e r c.in_ok-kept-in-Some.kept there found

pub returns-in-None-clause-narrow : goal.returns-in-None-clause-narrow
returns-in-None-clause-narrow g c =
    let t = c.args.table.now in
    let e = c.args.envelope.now in
    let kind = c.kind.ensures ∙ ap kind_of c.body.ensures.value in
    let none : None ≡ row t e.sender (kind_of e.body) =
    ap (option_map (λ (r : Bor Sent). r.now)) (sym c.in-None.is) ∙ (c.row.ensures ∙ (λ i. row t (c.sender.ensures.value i) (kind i))) in
    λ yes reach sender is. narrow_now c.args.node.now c.args.slices.now t reach e ((none_dropped c.args.node.now c.args.slices.now t e none).0 refl) sender is

pub returns-in_ok-kept-in-Some-clause-narrow : goal.returns-in_ok-kept-in-Some-clause-narrow
returns-in_ok-kept-in-Some-clause-narrow g c =
    let exactly = returns-in_ok-kept-in-Some-clause-exactly g c in
    λ yes reach sender is. narrow_now c.args.node.now c.args.slices.now c.args.table.now reach c.args.envelope.now (exactly.0 yes) sender is

pub returns-in_ok-kept-in-Some-clause-stays : goal.returns-in_ok-kept-in-Some-clause-stays
returns-in_ok-kept-in-Some-clause-stays g c =
    let exactly = returns-in_ok-kept-in-Some-clause-exactly g c in
    λ yes reach brings is. reach_stays c.args.node.now c.args.slices.now c.args.table.now reach c.args.envelope.now (exactly.0 yes) brings is
