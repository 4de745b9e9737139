use Rattle.std.proofs.Common.{◌≡◌, ◌<◌, IfOk, List, OnErr, Some, length, set, refl, sym, subst}
use Rattle.host_config.specs.Configs.{index_in}
use Rattle.host_journal.specs.Logs.{Log}
use Rattle.host_world.specs.Worlds.{IsAnswered, IsPlaceOf, marks_at, numbers_of}
use Rattle.host_world.proofs.ByNumber.{Changed, changed, marked, missing, stays}
use Rattle.host_world.proofs.Histories.{history-answered}
use Rattle.host_world.proofs.world.World.apply.Given.{Over}
use Rattle.host_world.proofs.world.World.apply.Goals as goal

there : (g : Over) (c : goal.After-self-1 g) → (index_in (numbers_of c.self.inside.journals.items) c.args.number ≡ Some c.in-Ok.at) × (c.in-Ok.at < length c.self.inside.journals.items)
there g c = subst (λ (xs : List Log). (index_in (numbers_of xs) c.args.number ≡ Some c.in-Ok.at) × (c.in-Ok.at < length xs)) (sym c.self.view_is) (c.in-Ok.ensures)

all-of : (g : Over) (c : goal.After-self-1 g) → Changed c.self.inside.numbers.items c.self.inside.journals.items c.args.number c.in-Ok.at c.apply.new.self c.args.event c.apply.result
all-of g c =
    let ls = c.self.inside.journals.items in
    changed c.self.inside.numbers.items ls c.args.number c.in-Ok.at c.index_mut.result.now c.apply.new.self c.args.event c.apply.result c.self.invariant (there g c) c.index_mut.ensures.value
    c.apply.ensures.ok c.apply.ensures.entered c.apply.ensures.err c.apply.ensures.same

pub invariant_of-self : goal.invariant_of-self
invariant_of-self g c = (all-of g c).kept

pub returns-in-Ok-clause-answer : goal.returns-in-Ok-clause-answer
returns-in-Ok-clause-answer g c = subst (λ (xs : List Log). IsAnswered xs c.args.number c.args.event c.apply.result (set c.self.inside.journals.items c.in-Ok.at c.apply.new.self)) c.self.view_is (all-of g c).answer

pub returns-in-Ok-clause-marks : goal.returns-in-Ok-clause-marks
returns-in-Ok-clause-marks g c =
    subst (λ (xs : List Log). IfOk c.apply.result (λ v. v.marks.items ≡ marks_at xs c.args.number c.args.event)) c.self.view_is
    (marked c.apply.result c.self.inside.journals.items c.args.number c.in-Ok.at c.index_mut.result.now c.args.event (there g c).0 (there g c).1 c.index_mut.ensures.value c.apply.ensures.marks)

pub returns-in-Ok-clause-same : goal.returns-in-Ok-clause-same
returns-in-Ok-clause-same g c =
    let ls = c.self.inside.journals.items in
    subst (λ (xs : List Log). OnErr c.apply.result (set ls c.in-Ok.at c.apply.new.self ≡ xs)) c.self.view_is
    (stays c.apply.result ls c.in-Ok.at c.index_mut.result.now c.apply.new.self c.index_mut.ensures.value c.apply.ensures.same)

pub returns-in-Ok-clause-history : goal.returns-in-Ok-clause-history
returns-in-Ok-clause-history g c = λ h own_is memory.
    history-answered h c.args.self.now (set c.self.inside.journals.items c.in-Ok.at c.apply.new.self) c.args.number c.args.event c.apply.result own_is
    (subst (λ (xs : List Log). IsAnswered xs c.args.number c.args.event c.apply.result (set c.self.inside.journals.items c.in-Ok.at c.apply.new.self)) c.self.view_is (all-of g c).answer) memory

pub returns-in-Err-clause-answer : goal.returns-in-Err-clause-answer
returns-in-Err-clause-answer g c =
    let none = missing c.args.self.now c.args.number (subst (λ r. IsPlaceOf c.args.self.now c.args.number r) c.in-Err.is c.place.ensures).0 in
    rw none (refl, refl)

pub returns-in-Err-clause-history : goal.returns-in-Err-clause-history
returns-in-Err-clause-history g c = λ h own_is memory.
    let none = missing c.args.self.now c.args.number (subst (λ r. IsPlaceOf c.args.self.now c.args.number r) c.in-Err.is c.place.ensures).0 in
    history-answered h c.args.self.now c.args.self.now c.args.number c.args.event _ own_is (rw none (refl, refl)) memory
