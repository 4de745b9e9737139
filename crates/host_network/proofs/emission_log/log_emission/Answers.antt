use Rattle.std.proofs.Common.{rules, ◌≡◌, ◌∙◌, ◌++◌, ◌∷◌, [], length, ap}
use Rattle.host_network.proofs.Numbering.{by-kind, counted, kind-read}
use Rattle.host_network.proofs.emission_log.log_emission.Goals as goal

pub returns-clause-places : goal.returns-clause-places
returns-clause-places g c =
    let kind = kind-read c.kind-kind.result c.body.result.now c.read.result.now c.args.filed.now c.kind-kind.ensures c.body.ensures.value c.read.ensures in
    let place : c.len-place.result ≡ length c.args.emitted.now.items = search rules in
    let all : c.push_reserved.new.self.items ≡ c.args.emitted.now.items ++ c.args.filed.now ∷ [] = c.push_reserved.ensures.items ∙ ap (λ f. c.args.emitted.now.items ++ f ∷ []) c.copy_of.ensures in
    by-kind c.args.places.now c.note-mark.new.places c.kind-kind.result c.args.emitted.now.items c.push_reserved.new.self.items c.args.filed.now c.len-place.result
    kind place all c.requires.places c.note-mark.ensures.nominations c.note-mark.ensures.ballots

pub returns-clause-marks : goal.returns-clause-marks
returns-clause-marks g c =
    let kind = kind-read c.kind-kind.result c.body.result.now c.read.result.now c.args.filed.now c.kind-kind.ensures c.body.ensures.value c.read.ensures in
    c.push_reserved-2.ensures.items
    ∙ ap (λ ms. c.args.marks.now.items ++ ms) (counted c.kind-kind.result c.args.emitted.now.items c.args.filed.now c.args.places.now c.note-mark.result kind c.requires.places c.note-mark.ensures.count)
