use Rattle.std.proofs.Common.{rules, ◌≡◌, ◌∙◌, ◌<◌, ◌≤◌, length, map, option_map, take, ap, arith, subst, sym}
use Rattle.std.proofs.lemmas.List.{length-map}
use Rattle.node_store.specs.Archives.{Archived, only_held}
use Rattle.node_store.proofs.Growing.{all-gone, gone-up-to, still-long}
use Rattle.node_store.proofs.archive.Archive.let_go.Goals as goal

pub let_go_at-requires : goal.let_go_at-requires
let_go_at-requires g c =
    let places = c.self.inside.places.items in
    let start : Archived = map (option_map g.S.Places.put_there) places in
    let within : c.loop-number.number < length places = search rules in
    let long : length start ≡ length places = length-map places (option_map g.S.Places.put_there) in
    let now : length c.loop-number.self ≡ length start =
    ap (λ (xs : Archived). length xs) c.loop-number.invariant ∙ still-long (take c.loop-number.number c.args.held.now) start in
    omega (arith, within, long, now)

pub loop-number-preserved : goal.loop-number-preserved
loop-number-preserved g c =
    let places = c.self.inside.places.items in
    let within : c.loop-number.number < length places = search rules in
    gone-up-to c.args.held.now (map (option_map g.S.Places.put_there) places) _ _ c.loop-number.number
    (subst (λ n. c.loop-number.number < n) (sym (length-map places (option_map g.S.Places.put_there))) within) c.loop-number.invariant c.let_go_at.ensures

pub returns : goal.returns
returns g c =
    let places = c.self.inside.places.items in
    let start : Archived = map (option_map g.S.Places.put_there) places in
    let behind : length places ≤ c.loop-number.number = search rules in
    let long : length start ≡ length places = length-map places (option_map g.S.Places.put_there) in
    c.loop-number.invariant
    ∙ all-gone c.args.held.now start c.loop-number.number (omega (arith, behind, long))
    ∙ ap (only_held c.args.held.now) c.self.view_is
