-- What each pass has put and taken, and what the queue holds.
use Rattle.std.specs.Prelude.{◌≡◌, ℕ, ◌+◌, List, [], ◌∷◌, length}
use mathlib.Core.Option.{some}
use lib.ListN.{get_elem?}
use Rattle.pool_queue.specs.declared.rule.Hand.{Hand}
use Rattle.pool_queue.specs.declared.rule.Job.{Job}

-- the weights of these members, added up
abbrev pub weigh : {X : Type 0} → (X → ℕ) → List X → ℕ
weigh h [] = 0
weigh h (x ∷ xs) = h x + weigh h xs

-- all parts of the right to know the whole of a queue
abbrev pub all_parts : ℕ
all_parts = 64

-- what a pass has: its parts of the right to know the whole, what it put, and what it took
abbrev pub hand : ℕ → List Job → List Job → Hand
hand parts put taken = record { parts = parts; put = put; taken = taken }

abbrev pub total : (Hand → ℕ) → List Hand → ℕ
total f views = weigh f views

-- a pass with no part has put and taken nothing
abbrev pub IdleIsEmpty : List Hand → Type 0
IdleIsEmpty views = (id : ℕ) (v : Hand) → get_elem? views id ≡ some v → v.parts ≡ 0 → (v.put ≡ []) × (v.taken ≡ [])

-- however jobs are weighed, what was put is what was taken and what the queue holds; the passes have all parts, and one
-- with no part has put and taken nothing
abbrev pub Balanced : List Job → List Hand → Type 0
Balanced items views =
    (total (λ v. v.parts) views ≡ all_parts)
    × ((h : Job → ℕ) → total (λ v. weigh h v.put) views ≡ total (λ v. weigh h v.taken) views + weigh h items)
    × IdleIsEmpty views

-- there are calls of the other passes after which the queue, by its rule, holds these jobs
abbrev pub MayHold : Hand → List Job → Type 0
MayHold v items = (views : List Hand) × (id : ℕ) × (get_elem? views id ≡ some v) × Balanced items views

-- the queue may hold n jobs, by what the pass knows
abbrev pub MayHaveMany : ℕ → Hand → Type 0
MayHaveMany n v = (items : List Job) × (length items ≡ n) × MayHold v items
