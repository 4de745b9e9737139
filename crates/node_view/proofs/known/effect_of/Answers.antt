use Rattle.std.proofs.Common.{rules, ◌≡◌, ◌∙◌, Box, IfSome, List, Option, Some, ap, option_map, subst, sym}
use Rattle.std.specs.Global.{Global}
use Rattle.scp_types.specs.Statements.{Sent, kind_of}
use Rattle.node_store.specs.Archives.{sent_of, sents_of}
use Rattle.node_table.specs.Places.{place_of_row}
use Rattle.node_view.specs.declared.standing.Standing.{Standing}
use Rattle.node_view.specs.declared.known_reach.KnownReach.{KnownReach}
use Rattle.node_view.specs.Listening.{KnowsRegion, reach_in, region_of}
use Rattle.scp_types.specs.declared.kind.Kind.{Kind}
use Rattle.node_view.specs.Regions.{AreToldSame, HasSlicesAt, IsRegion, other_kind}
use Rattle.node_view.proofs.Standings.{region_known, same_slices_keep, stranger_keeps}
use Rattle.node_view.proofs.known.effect_of.Goals as goal

pub returns-in_default-there : goal.returns-in_default-there
returns-in_default-there g c =
    stranger_keeps c.args.configured.now (sents_of c.args.table.now) (sent_of c.args.row.now.envelope) (region_of (reach_in c.args.known.now)) c.args.there.now c.requires.among c.in_default-there.is

pub returns-then-has_same_slices : goal.returns-then-has_same_slices
returns-then-has_same_slices g c =
    let e = sent_of c.args.row.now.envelope in
    let table = sents_of c.args.table.now in
    let there : place_of_row table e.sender (kind_of e.body) ≡ c.in-Some-there.there.row = subst (λ (o : Option Standing). IfSome o (λ s. place_of_row table e.sender (kind_of e.body) ≡ s.row)) c.in-Some-there.is c.requires.row in
    same_slices_keep c.args.configured.now table e (region_of (reach_in c.args.known.now)) c.in-Some-get.place (there ∙ (sym c.get.ensures ∙ c.in-Some-get.is))
    (ap (option_map (λ (x : Sent). x.slices)) (sym c.in-Some-filed_at.ensures.row) ∙ ap (λ s. Some s) (c.has_same_slices.ensures.0 c.if-has_same_slices.true))

pub effect_on-requires-clause-told : goal.effect_on-requires-clause-told
effect_on-requires-clause-told g c =
    let k = c.args.configured.now in
    let e = sent_of c.args.row.now.envelope in
    let table = sents_of c.args.table.now in
    let r = c.deref.result.now.region in
    let n = c.in-Some-there.there.node in
    let kind : c.kind-kind.result ≡ kind_of e.body = search rules in
    let is : IsRegion k.name k.slices table c.in-Some.known.value.region = subst (λ (o : Option (Box KnownReach Global)). KnowsRegion k table (region_of (reach_in o))) c.in-Some.is (region_known k table (reach_in c.args.known.now) c.requires.known) in
    let there = subst (λ (v : KnownReach). IsRegion k.name k.slices table v.region) (sym c.deref.ensures) is in
    let told : AreToldSame k.name k.slices table e r n (record { latest = c.has_slices_at.result; other = c.has_slices_at-2.result }) = record {
      latest = λ same. subst (λ (j : Kind). HasSlicesAt k.name k.slices table e r j r.latest) kind (c.has_slices_at.ensures same k there);
      other = λ same. subst (λ (j : Kind). HasSlicesAt k.name k.slices table e r j n) (c.other_kind.ensures ∙ ap other_kind kind) (c.has_slices_at-2.ensures same k there);
    } in
    subst (λ (p : List Sent × Sent). AreToldSame k.name k.slices p.0 p.1 r n (record { latest = c.has_slices_at.result; other = c.has_slices_at-2.result })) (λ i. (sym c.of-rows.ensures i, sym c.read-envelope.ensures i)) told
