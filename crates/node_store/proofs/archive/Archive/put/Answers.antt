use Rattle.std.proofs.Common.{rules, ◌≡◌, ◌∙◌, map, option_map, set, slice_get, Some, sym, subst, ap}
use Rattle.scp_types.specs.Statements.{Sent}
use Rattle.node_store.proofs.Growing.{all-kept, all-put, filed-there, keeps-put}
use Rattle.node_store.proofs.Telling.{told-kept, told-put}
use Rattle.node_store.specs.Archives.{Archived, Keeps, filed_slices_at}
use Rattle.node_store.proofs.archive.Archive.put.Goals as goal

pub invariant_of-self-in_err-place : goal.invariant_of-self-in_err-place
invariant_of-self-in_err-place g c =
    let inside = c.self.inside in (
      all-kept (g.S.Places.is_of inside.shelf) (g.S.Places.is_of c.put.new.self) inside.places.items c.reserve.new.self.items c.reserve.ensures.items c.put.ensures.kept c.self.invariant.0,
      told-kept g.S.Places.put_there inside.places.items c.reserve.new.self.items inside.told.numbers.items inside.told.last c.reserve.ensures.items c.self.invariant.1,
    )

pub invariant_of-self-2 : goal.invariant_of-self-2
invariant_of-self-2 g c =
    let inside = c.self.inside in
    let f = g.S.Places.put_there in
    let places = c.reserve.new.self.items in
    let grown = c.vacant-number.new.places.items in
    let number = c.vacant-number.result in
    let place = c.in_ok-place.place in
    let told = c.note.new.self in
    let candidate = c.candidate-candidate.result in
    let is : f place ≡ c.args.envelope = search rules in
    let same : map (option_map f) places ≡ c.args.self.now = ap (map (option_map f)) c.reserve.ensures.items ∙ c.self.view_is in
    let slices : c.slices-2.result.now ≡ (f place).slices = c.slices-2.ensures ∙ sym (ap (λ (e : Sent). e.slices) is) in (
      all-put (g.S.Places.is_of c.put.new.self) places grown number place c.vacant-number.ensures.grown (search rules)
          (all-kept (g.S.Places.is_of inside.shelf) (g.S.Places.is_of c.put.new.self) inside.places.items places c.reserve.ensures.items c.put.ensures.kept c.self.invariant.0),
      told-put f places grown number place inside.told.numbers.items told.numbers.items inside.told.last told.last candidate c.is_some-is_same.result c.vacant-number.ensures.grown c.vacant-number.ensures.vacant
          (told-kept f inside.places.items places inside.told.numbers.items inside.told.last c.reserve.ensures.items c.self.invariant.1)
          (λ h. ap (λ (a : Archived). filed_slices_at a candidate) same ∙ c.same_slices_at.ensures.there.0 (search rules) ∙ ap (λ x. Some x) slices)
          c.note.ensures.others c.note.ensures.number c.note.ensures.within c.note.ensures.last,
    )

pub returns-clause-filed : goal.returns-clause-filed
returns-clause-filed g c =
    let is : g.S.Places.put_there c.in_ok-place.place ≡ c.args.envelope = search rules in
    subst (λ (e : Sent). slice_get (map (option_map g.S.Places.put_there) (set c.vacant-number.new.places.items c.vacant-number.result (Some c.in_ok-place.place))) c.vacant-number.result ≡ Some (Some e)) (is ∙ sym c.of-put.ensures)
    (filed-there g.S.Places.put_there c.vacant-number.new.places.items c.vacant-number.result c.in_ok-place.place c.vacant-number.ensures.vacant)

pub returns-clause-kept : goal.returns-clause-kept
returns-clause-kept g c =
    subst (λ (a : Archived). Keeps a (map (option_map g.S.Places.put_there) (set c.vacant-number.new.places.items c.vacant-number.result (Some c.in_ok-place.place)))) (ap (map (option_map g.S.Places.put_there)) c.reserve.ensures.items ∙ c.self.view_is)
    (keeps-put g.S.Places.put_there c.reserve.new.self.items c.vacant-number.new.places.items c.vacant-number.result c.in_ok-place.place c.vacant-number.ensures.grown c.vacant-number.ensures.vacant)
