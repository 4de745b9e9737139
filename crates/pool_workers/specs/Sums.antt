-- What workers have done, weighed: any weight of jobs is counted on both sides.
use Rattle.std.specs.Prelude.{◌≡◌, ◌≢◌, ◌==◌, ℕ, ◌+◌, ◌≤◌, ◌<◌, List, [], ◌∷◌, ◌++◌, length, take, Bool, true, if◌then◌else◌, Option, Some, None, slice_index_or}
use mathlib.Core.List.{IsPrefix}
use Rattle.std.specs.List.{All, AllZip}
use Rattle.std.specs.Option.{option_to_list}
use Rattle.crossbeam_queue.specs.Passes.{Pass, view}
use Rattle.scp_types.specs.declared.event.Event.{Event}
use Rattle.scp_types.specs.declared.event.Event.TheVariants.{Hear}
use Rattle.scp_types.specs.declared.event.Out.{Out}
use Rattle.scp_types.specs.declared.event.Out.TheVariants.{ArmNomination, ArmBallot, Emit, Externalized}
use Rattle.scp_types.specs.Statements.{kind_of}
use Rattle.scp_spec.specs.Networks.{HostedNode}
use Rattle.scp_spec.specs.Hosts.{Config}
use Rattle.pool_queue.specs.declared.rule.Job.{Job}
use Rattle.pool_queue.specs.declared.rule.Hand.{Hand}
use Rattle.pool_queue.specs.declared.line.Queue.{Queue}
use Rattle.pool_queue.specs.Hands.{weigh, hand}
use Rattle.pool_queue.specs.Queues.{IsOf, put_by, taken_by}
use Rattle.pool_cell.specs.Receipts.{AppliedEvent}
use Rattle.pool_cell.specs.Views.{Denial, Knowledge}
use Rattle.pool_cell.specs.Cells.{IsSeatOf}
use Rattle.pool_cell.specs.Sights.{CellSight, SeatSight}
use Rattle.pool_workers.specs.Numbers.{AllLack}
use Rattle.pool_workers.specs.declared.applying.SlotEmission.{SlotEmission}
use Rattle.pool_workers.specs.declared.worker.Worker.{Worker}

abbrev pub job : ℕ → Event → Job
job network event = record { network = network; event = event }

-- the job by which a node hears an emission; none for the node whose it is
abbrev pub hear_by : SlotEmission → HostedNode → List Job
hear_by e h = if h.name == e.from then [] else job e.network (Hear e.slot h.name e.from e.kind e.number) ∷ []

-- the jobs by which an emission is heard: one for each other node that is hosted
abbrev pub hears_of : SlotEmission → List HostedNode → List Job
hears_of e [] = []
hears_of e (h ∷ hs) = hear_by e h ++ hears_of e hs

-- the emission of what was given out, by its mark; none of anything else
abbrev pub emission_at_mark : ℕ → Out → Option ℕ → Option SlotEmission
emission_at_mark network (ArmNomination r) m = None
emission_at_mark network (ArmBallot n) m = None
emission_at_mark network (Externalized v) m = None
emission_at_mark network (Emit e) None = None
emission_at_mark network (Emit e) (Some m) =
    Some (record { network = network; slot = e.slot; from = e.sender; kind = kind_of e.body; number = m })

-- the jobs by which others hear each emission of these outs, whose numbers are the marks, in order
abbrev pub hears_of_outs : Config → List Out → List ℕ → List Job
hears_of_outs config [] ms = []
hears_of_outs config (ArmNomination r ∷ os) ms = hears_of_outs config os ms
hears_of_outs config (ArmBallot n ∷ os) ms = hears_of_outs config os ms
hears_of_outs config (Externalized v ∷ os) ms = hears_of_outs config os ms
hears_of_outs config (Emit e ∷ os) [] = hears_of_outs config os []
hears_of_outs config (Emit e ∷ os) (m ∷ ms) =
    hears_of (record { network = config.number; slot = e.slot; from = e.sender; kind = kind_of e.body; number = m })
    config.nodes
    ++ hears_of_outs config os ms

-- what a receipt makes the other nodes of its network hear
abbrev pub hears : Config → AppliedEvent → List Job
hears config r = hears_of_outs config r.outs r.marks

-- the events of the receipts, as jobs of their network, weighed
abbrev pub applied_of : (Job → ℕ) → Config → List AppliedEvent → ℕ
applied_of h config rs = weigh (λ (r : AppliedEvent). h (job config.number r.event)) rs

-- the refused events, as jobs of their network, weighed
abbrev pub refused_of : (Job → ℕ) → Config → List Denial → ℕ
refused_of h config ds = weigh (λ (d : Denial). h (job config.number d.event)) ds

-- what the receipts make others hear, weighed
abbrev pub heard_of : (Job → ℕ) → Config → List AppliedEvent → ℕ
heard_of h config rs = weigh (λ (r : AppliedEvent). weigh h (hears config r)) rs

-- what was done by a seat that knows this: applied or refused
abbrev pub seat_done : (Job → ℕ) → Knowledge → ℕ
seat_done h v = applied_of h v.config v.receipts + refused_of h v.config v.denials

-- what the receipts of a seat that knows this make others hear, weighed
abbrev pub seat_heard : (Job → ℕ) → Knowledge → ℕ
seat_heard h v = heard_of h v.config v.receipts

-- how many receipts and denials it has
abbrev pub seat_applied : Knowledge → ℕ
seat_applied v = length v.receipts

abbrev pub seat_refused : Knowledge → ℕ
seat_refused v = length v.denials

abbrev pub done_by : (Job → ℕ) → SeatSight → ℕ
done_by h s = seat_done h s.me

-- what the receipts that were let go make others hear, weighed
abbrev pub followed_by : (Job → ℕ) → SeatSight → ℕ
followed_by h s = heard_of h s.me.config (take s.let_go s.me.receipts)

abbrev pub applied_many : SeatSight → ℕ
applied_many s = seat_applied s.me

abbrev pub refused_many : SeatSight → ℕ
refused_many s = seat_refused s.me

-- what a worker's pass, if it has one, has put and taken
abbrev pub hand_of : Option (Pass Job Hand) → Hand
hand_of None = hand 0 [] []
hand_of (Some p) = view p

-- what a pass has with one job more that was put
abbrev pub with_put : Hand → Job → Hand
with_put p j = hand p.parts (p.put ++ j ∷ []) p.taken

-- what a pass has with one job more that was taken
abbrev pub with_taken : Hand → Job → Hand
with_taken p j = hand p.parts p.put (p.taken ++ j ∷ [])

-- a seat of this cell, which has let go of no more receipts than it has
abbrev pub IsSeated : CellSight → SeatSight → Type 0
IsSeated c s = IsSeatOf c s × (s.let_go ≤ length s.me.receipts)

-- a seat in each cell
abbrev pub AllSeated : List CellSight → List SeatSight → Type 0
AllSeated cs ss = AllZip IsSeated cs ss

-- the same seat later: it has seen more, gained receipts and denials, and set no stop mark
pub record IsLater (a b : SeatSight) : Type 0 where
  pub cell : b.cell ≡ a.cell
  pub number : b.me.number ≡ a.me.number
  pub config : b.me.config ≡ a.me.config
  pub seats : b.me.seats ≡ a.me.seats
  pub closed : b.me.closed ≡ a.me.closed
  pub stops : b.me.stops ≡ a.me.stops
  pub seen : IsPrefix a.me.seen b.me.seen
  pub lasting : a.me.stopped ≡ true → b.me.stopped ≡ true
  pub receipts : List AppliedEvent
  pub denials : List Denial
  pub gained : b.me.receipts ≡ a.me.receipts ++ receipts
  pub refused : b.me.denials ≡ a.me.denials ++ denials

-- seats that have gained receipts and denials, one by one
abbrev pub AllGrown : List SeatSight → List SeatSight → Type 0
AllGrown xs ys = AllZip IsLater xs ys

-- the seat has let go of all its receipts
abbrev pub IsPast : SeatSight → Type 0
IsPast s = length s.me.receipts ≤ s.let_go

abbrev pub AllPast : List SeatSight → Type 0
AllPast ss = All IsPast ss

-- each seat but the one at this place has let go of all its receipts
abbrev pub AllPastBut : ℕ → List SeatSight → Type 0
AllPastBut k ss = (i : ℕ) (d : SeatSight) → i ≢ k → i < length ss → IsPast (slice_index_or ss i d)

-- a seat has done one job more: applied or refused it
pub record IsJobDone (a b : SeatSight) (j : Job) (well : Bool) : Type 0 where
  pub later : IsLater a b
  pub sum : (h : Job → ℕ) → done_by h b ≡ done_by h a + h j
  pub followed : (h : Job → ℕ) → followed_by h b ≡ followed_by h a
  pub applied : applied_many b ≡ applied_many a + (if well then 1 else 0)
  pub refused : refused_many b ≡ refused_many a + (if well then 0 else 1)

abbrev pub weight_done : {S H P : Type 0} → (Job → ℕ) → (Worker S H P) → ℕ
weight_done h w = weigh (done_by h) w.seats.items

abbrev pub weight_followed : {S H P : Type 0} → (Job → ℕ) → (Worker S H P) → ℕ
weight_followed h w = weigh (followed_by h) w.seats.items

abbrev pub weight_put : {S H P : Type 0} → (Job → ℕ) → (Worker S H P) → ℕ
weight_put h w = weigh h (hand_of w.pass).put

abbrev pub weight_taken : {S H P : Type 0} → (Job → ℕ) → (Worker S H P) → ℕ
weight_taken h w = weigh h (hand_of w.pass).taken

-- how many receipts and denials the seats of a worker have
abbrev pub receipts_of : {S H P : Type 0} → (Worker S H P) → ℕ
receipts_of w = weigh applied_many w.seats.items

abbrev pub denials_of : {S H P : Type 0} → (Worker S H P) → ℕ
denials_of w = weigh refused_many w.seats.items

-- From one moment of a worker to another, two sums are the same. One is of what it took, what its receipts made others
-- hear and what it was handed. The other is of what was put, applied or refused, or is of no network here.
pub record KeepsSums {S H P : Type 0} (cells : List CellSight) (handed : List Job) (a b : (Worker S H P)) : Type 0 where
  pub lacking : List Job
  pub elsewhere : AllLack cells lacking
  pub sum : (h : Job → ℕ)
      → weight_done h b + weight_put h b + weigh h lacking + weight_followed h a + weight_taken h a
      ≡ weight_done h a + weight_put h a + weight_followed h b + weight_taken h b + weigh h handed
  pub applied : b.applied + receipts_of a ≡ a.applied + receipts_of b
  pub refused : b.refused + denials_of a ≡ a.refused + denials_of b + length lacking
  pub later : AllGrown a.seats.items b.seats.items
  pub parts : (hand_of b.pass).parts ≡ (hand_of a.pass).parts

-- the worker is as it was
pub record IsSameWorker {S H P : Type 0} (a b : (Worker S H P)) : Type 0 where
  pub seats : b.seats.items ≡ a.seats.items
  pub pass : b.pass ≡ a.pass
  pub applied : b.applied ≡ a.applied
  pub refused : b.refused ≡ a.refused

-- a pass of this queue, or none
abbrev pub IsPassing : Option Queue → Option (Pass Job Hand) → Type 0
IsPassing q None = Unit {0}
IsPassing None (Some p) = ⊥
IsPassing (Some q) (Some p) = IsOf q p

-- a worker between two jobs: it has a seat in each cell, each of which has let go of all its receipts
pub record IsReadyWorker {S H P : Type 0} (cells : List CellSight) (queue : Option Queue) (w : (Worker S H P)) : Type 0 where
  pub seated : AllSeated cells w.seats.items
  pub passing : IsPassing queue w.pass
  pub past : AllPast w.seats.items

-- a worker that goes through the receipts of one seat
pub record IsBusy {S H P : Type 0} (cells : List CellSight) (queue : Option Queue) (k : ℕ) (w : (Worker S H P))
    : Type 0 where
  pub seated : AllSeated cells w.seats.items
  pub passing : IsPassing queue w.pass
  pub there : k < length cells
  pub past : AllPastBut k w.seats.items

-- a worker at the end of its work: between two jobs, with the sums kept
pub record IsThrough {S H P : Type 0} (cells : List CellSight) (queue : Option Queue) (a b : (Worker S H P))
    : Type 0 where
  pub ready : IsReadyWorker cells queue b
  pub kept : KeepsSums cells [] a b

-- all these workers are between two jobs
abbrev pub AllReady : {S H P : Type 0} → List CellSight → Option Queue → List (Worker S H P) → Type 0
AllReady cells queue ws = All (IsReadyWorker cells queue) ws

abbrev pub AllLaterWorkers : {S H P : Type 0} → List (Worker S H P) → List (Worker S H P) → Type 0
AllLaterWorkers xs ys = AllZip (λ (a b : Worker _ _ _). AllGrown a.seats.items b.seats.items) xs ys

-- how many parts of the right to know the whole of a queue a worker has
abbrev pub parts_of : {S H P : Type 0} → (Worker S H P) → ℕ
parts_of w = (hand_of w.pass).parts

-- how many events a worker has applied, and how many were refused
abbrev pub applied_count : {S H P : Type 0} → (Worker S H P) → ℕ
applied_count w = w.applied

abbrev pub refused_count : {S H P : Type 0} → (Worker S H P) → ℕ
refused_count w = w.refused

-- From one moment of all workers to another, two sums are the same, as those of one worker. They are handed nothing.
pub record IsSummed {S H P : Type 0} (cells : List CellSight) (xs ys : List (Worker S H P)) : Type 0 where
  pub lacking : List Job
  pub elsewhere : AllLack cells lacking
  pub sum : (h : Job → ℕ)
      → weigh (weight_done h) ys + weigh (weight_put h) ys + weigh h lacking + weigh (weight_followed h) xs
      + weigh (weight_taken h) xs
      ≡ weigh (weight_done h) xs + weigh (weight_put h) xs + weigh (weight_followed h) ys + weigh (weight_taken h) ys
  pub applied : weigh applied_count ys + weigh receipts_of xs ≡ weigh applied_count xs + weigh receipts_of ys
  pub refused : weigh refused_count ys + weigh denials_of xs ≡ weigh refused_count xs + weigh denials_of ys + length lacking
  pub later : AllLaterWorkers xs ys
  pub parts : weigh parts_of ys ≡ weigh parts_of xs

-- a worker without its pass
abbrev pub at_rest : {S H P : Type 0} → (Worker S H P) → (Worker S H P)
at_rest w = record w { pass = None }

-- all these passes are of this queue
abbrev pub AllPassing : Option Queue → List (Pass Job Hand) → Type 0
AllPassing q ps = All (λ p. IsPassing q (Some p)) ps

-- the passes of the workers
abbrev pub passes_of : {S H P : Type 0} → List (Worker S H P) → List (Pass Job Hand)
passes_of [] = []
passes_of (w ∷ ws) = option_to_list w.pass ++ passes_of ws

-- From one moment of all workers to that when the queue is closed and all that it had is done, two sums are the same.
-- They are as those of one worker, with what was put and taken by these passes, which were not the workers'.
pub record AreSumsClosed {S H P : Type 0} (cells : List CellSight) (ps : List (Pass Job Hand)) (xs zs : List (Worker S H P))
    : Type 0 where
  pub lacking : List Job
  pub elsewhere : AllLack cells lacking
  pub sum : (h : Job → ℕ)
      → weigh (weight_done h) zs + weigh h lacking + weigh (weight_followed h) xs + weigh (weight_taken h) xs
      + taken_by h ps
      ≡ weigh (weight_done h) xs + weigh (weight_put h) xs + weigh (weight_followed h) zs + put_by h ps
  pub applied : weigh applied_count zs + weigh receipts_of xs ≡ weigh applied_count xs + weigh receipts_of zs
  pub refused : weigh refused_count zs + weigh denials_of xs ≡ weigh refused_count xs + weigh denials_of zs + length lacking
  pub later : AllLaterWorkers xs zs
