-- Envelopes that leave a reach as it is.
use Rattle.std.specs.Prelude.{◌≡◌, ◌||◌, ℕ, List, Some}
use Rattle.scp_types.specs.Trees.{Slices}
use Rattle.scp_types.specs.Statements.{Sent, kind_of}
use Rattle.scp_spec.specs.Sets.{Names, among, also, AreWithin}
use Rattle.scp_spec.specs.Satisfaction.{names}
use Rattle.scp_spec.specs.Rows.{row}

-- the names in an envelope's slices, the node itself, and the names of its configured slices
abbrev pub kept_names : ℕ → Slices → Sent → Names
kept_names own configured e u = among (names e.slices) u || also own (among (names configured)) u

-- of the row that the envelope replaces no name is dropped but such as the node reaches by itself: each of its names is
-- in the envelope's slices too, or is the node or a name of its configured slices
abbrev pub DropsNone : ℕ → Slices → List Sent → Sent → Type 0
DropsNone own configured table e =
    (old : Sent) → row table e.sender (kind_of e.body) ≡ Some old
    → AreWithin (among (names old.slices)) (kept_names own configured e)
