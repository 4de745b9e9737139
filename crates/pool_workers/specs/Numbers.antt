-- Cells by the numbers of their networks.
use Rattle.std.specs.Prelude.{◌≡◌, ◌≢◌, ◌<◌, ℕ, List, [], ◌∷◌, map, slice_index_or}
use Rattle.std.specs.List.{All}
use Rattle.pool_queue.specs.declared.rule.Job.{Job}
use Rattle.pool_cell.specs.Sights.{CellSight}

abbrev pub cell_number : CellSight → ℕ
cell_number c = c.config.number

abbrev pub AllAbove : ℕ → List ℕ → Type 0
AllAbove n xs = All (λ x. n < x) xs

-- each number is below the next
abbrev pub IsRising : List ℕ → Type 0
IsRising [] = Unit {0}
IsRising (x ∷ xs) = AllAbove x xs × IsRising xs

-- these are the numbers of the cells, which stand in their order
abbrev pub IsNumbered : List ℕ → List CellSight → Type 0
IsNumbered numbers cells = (numbers ≡ map cell_number cells) × IsRising numbers

-- the number of the cell at a place
abbrev pub IsNumberAt : List CellSight → ℕ → ℕ → Type 0
IsNumberAt cells k number = (d : CellSight) → (slice_index_or cells k d).config.number ≡ number

-- no cell has this network
abbrev pub Lacks : List CellSight → ℕ → Type 0
Lacks cs number = All (λ (c : CellSight). number ≢ c.config.number) cs

-- a job of none of these networks
abbrev pub IsElsewhere : List CellSight → Job → Type 0
IsElsewhere cells j = Lacks cells j.network

abbrev pub AllLack : List CellSight → List Job → Type 0
AllLack cells js = All (IsElsewhere cells) js
