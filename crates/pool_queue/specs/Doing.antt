-- What becomes of tasks.
use Rattle.std.specs.Prelude.{◌≡◌, ◌<◌, ℕ, Bool, true, false, List, length, slice_index_or}

-- a task is as it was, or it is done and is what it may be then
pub record IsInPlace {T : Type 0} (does : T → T → Type 0) (was now : T) (is_done : Bool) : Type 0 where
  pub before : is_done ≡ false → now ≡ was
  pub behind : is_done ≡ true → does was now

-- each task was done once, and they stand in their order
pub record AreTasksDone {T : Type 0} (does : T → T → Type 0) (old new : List T) : Type 0 where
  pub count : length new ≡ length old
  pub each : (k : ℕ) (d : T) → k < length old → does (slice_index_or old k d) (slice_index_or new k d)
