use Rattle.std.proofs.Common.{◌≤◌, arith, length, refl, subst, sym}
use Rattle.pool_workers.specs.Spares.{HaveSpareSeats}
use Rattle.pool_workers.proofs.Crews.{cut_many, cut_room}
use Rattle.pool_workers.proofs.crew.Crew.into_room.Goals as goal

pub returns-clause-bound : goal.returns-clause-bound
returns-clause-bound g c =
    let r = c.self.inside.worker_room in
    let b = c.fewest_seats-many.ensures.bound in
    let m = c.min.ensures in let n = c.len.ensures in let ok = r.rooms.ok.0 in
    let few : c.fewest_seats-many.result ≤ length r.rooms.items = let b1 = b.1 in omega arith in
    let l = cut_many r (record r { rooms = c.truncate.new.self }) c.fewest_seats-many.result few c.truncate.ensures.items in
    let b0 = b.0 in let b1 = b.1 in (omega arith, omega arith)

pub returns-clause-seats : goal.returns-clause-seats
returns-clause-seats g c =
    let r = c.self.inside.worker_room in
    let b1 = c.fewest_seats-many.ensures.bound.1 in
    let m = c.min.ensures in let n = c.len.ensures in let ok = r.rooms.ok.0 in
    let few : c.fewest_seats-many.result ≤ length r.rooms.items = omega arith in
    let l = cut_many r (record r { rooms = c.truncate.new.self }) c.fewest_seats-many.result few c.truncate.ensures.items in
    subst (λ k. HaveSpareSeats k c.args.spares.now) (sym l) c.fewest_seats-many.ensures.seats

pub returns-clause-room : goal.returns-clause-room
returns-clause-room g c =
    let r = c.self.inside.worker_room in
    let b1 = c.fewest_seats-many.ensures.bound.1 in
    let m = c.min.ensures in let n = c.len.ensures in let ok = r.rooms.ok.0 in
    let few : c.fewest_seats-many.result ≤ length r.rooms.items = omega arith in
    let le : length c.args.spares.now ≤ c.self.inside.networks = subst (λ k. length c.args.spares.now ≤ k) (sym c.self.view_is) c.requires.room in
    cut_room r (record r { rooms = c.truncate.new.self }) c.fewest_seats-many.result c.self.inside.networks (length c.args.spares.now) c.self.invariant.1 few le c.truncate.ensures.items refl
