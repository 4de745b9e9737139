-- Queues and their passes.
use Rattle.std.specs.Prelude.{Option, ◌≡◌, ℕ, ◌<◌, List, []}
use Rattle.std.specs.List.{All}
use Rattle.crossbeam_queue.specs.Passes.{IsPassOf, Pass, view}
use Rattle.crossbeam_queue.specs.declared.array_queue.Doing.{Doing}
use Rattle.crossbeam_queue.specs.declared.array_queue.Slotted.{Slotted}
use Rattle.pool_queue.specs.declared.line.Queue.{Queue}
use Rattle.pool_queue.specs.declared.rule.Hand.{Hand}
use Rattle.pool_queue.specs.declared.rule.Job.{Job}
use Rattle.pool_queue.specs.Hands.{weigh}

-- a pass of this queue
abbrev pub IsPassOfQueue : Queue → Pass Job Hand → Type 0
IsPassOfQueue q p = IsPassOf q.line p

-- how many parts of the right to know the whole a pass has
abbrev pub parts : Pass Job Hand → ℕ
parts p = (view p).parts

-- what these passes have put, weighed
abbrev pub put_by : (Job → ℕ) → List (Pass Job Hand) → ℕ
put_by h ps = weigh (λ (p : Pass Job Hand). weigh h (view p).put) ps

-- what these passes have taken, weighed
abbrev pub taken_by : (Job → ℕ) → List (Pass Job Hand) → ℕ
taken_by h ps = weigh (λ (p : Pass Job Hand). weigh h (view p).taken) ps

-- how many parts of the right to know the whole these passes have
abbrev pub parts_by : List (Pass Job Hand) → ℕ
parts_by ps = weigh parts ps

-- the test holds of each of these passes
abbrev pub AllPasses : (Pass Job Hand → Type 0) → List (Pass Job Hand) → Type 0
AllPasses P ps = All P ps

-- a pass of this line that has a part of the right to know the whole
pub record IsOn {Q : Type 0} {A : Type 0} (l : Slotted (Option Job) (Doing Job Hand) Q A) (p : Pass Job Hand)
    : Type 0 where
  pub queue : IsPassOf l p
  pub part : 0 < parts p

-- a pass of this queue that has a part of the right to know the whole
abbrev pub IsOf : Queue → Pass Job Hand → Type 0
IsOf q p = IsOn q.line p

-- a pass of this line, with a part, that has put and taken nothing
pub record IsFreshOn {Q : Type 0} {A : Type 0} (l : Slotted (Option Job) (Doing Job Hand) Q A) (p : Pass Job Hand)
    : Type 0 where
  pub own : IsOn l p
  pub put : (view p).put ≡ []
  pub taken : (view p).taken ≡ []

-- a pass of this queue, with a part, that has put and taken nothing
abbrev pub IsFresh : Queue → Pass Job Hand → Type 0
IsFresh q = IsFreshOn q.line
