use Rattle.std.proofs.Common.{rules, ◌≡◌, length, refl}
use Rattle.live_shards.proofs.ShardLaws.{shards_served, vain_served}
use Rattle.live_shards.proofs.sharded_host.ShardedHostLineServer.serve.Goals as goal

pub invariant_of-self : goal.invariant_of-self
invariant_of-self c =
    let many : c.len.result ≡ length c.self.inside.shards.items = search rules in
    let room = rw c.deref.ensures.value at (c.has_room.ensures.room c.if-not-has_room.false) in
    (shards_served c.serve-answered.result c.self.inside.shards.items c.len.result c.args.number _ c.index_mut.result.now _ c.deal-dealt.result c.args.self.now c.self.inside.lost _ c.self.invariant c.if-self.false
    many c.deal-dealt.ensures.dealt room c.index_mut.ensures.value refl c.self.view_is c.is_err-self-inside.ensures.value c.serve-answered.ensures).0

pub returns : goal.returns
returns c =
    let many : c.len.result ≡ length c.self.inside.shards.items = search rules in
    let room = rw c.deref.ensures.value at (c.has_room.ensures.room c.if-not-has_room.false) in
    (shards_served c.serve-answered.result c.self.inside.shards.items c.len.result c.args.number _ c.index_mut.result.now _ c.deal-dealt.result c.args.self.now c.self.inside.lost _ c.self.invariant c.if-self.false
    many c.deal-dealt.ensures.dealt room c.index_mut.ensures.value refl c.self.view_is c.is_err-self-inside.ensures.value c.serve-answered.ensures).1

pub returns-then-not-has_room : goal.returns-then-not-has_room
returns-then-not-has_room c =
    let none = rw c.deref.ensures.value at (c.has_room.ensures.none c.if-not-has_room.true) in
    vain_served c.answer_in_vain.result c.self.inside.shards.items c.args.number _ c.args.self.now c.self.inside.lost c.self.invariant c.if-self.false none.1 c.self.view_is c.answer_in_vain.ensures
