use Rattle.std.proofs.Common.{◌∙◌, false, arith, sym}
use Rattle.scp_spec.specs.Sets.{among}
use Rattle.scp_bits.specs.Met.{nodes_at}
use Rattle.scp_bits.proofs.FewWords.{within_on}
use Rattle.scp_bits.proofs.MembersMet.{node_on}
use Rattle.scp_bits.proofs.Picking.{bit_is}
use Rattle.scp_bits.proofs.few.FewPlaces.compile.Goals as goal

pub loop-member-preserved : goal.loop-member-preserved
loop-member-preserved c =
    let ms = c.members-members.result.now in
    let i = c.loop-member.member-index in
    let m = c.member-item.result in
    let u = c.in-Node.node in
    let nodes = c.args.nodes.now in
    let kept = c.loop-member.invariant in
    let there = c.in-Some.ensures in
    record {
      shape = kept.shape;
      rest = sym (within_on ms i m u (among nodes) c.loop-member-test.true c.member-item.is c.in-Node.is (sym there.exactly)) ∙ kept.rest;
      so_far = λ ws.
          let s = among (nodes_at nodes ws) in
          omega (arith, kept.so_far ws, c.add_new.ensures.places c.if-not-add_new.false ws, bit_is nodes c.in-Some.place u ws c.requires there.place.0 there.place.1, node_on false ms i m u s c.loop-member-test.true c.member-item.is c.in-Node.is);
    }
