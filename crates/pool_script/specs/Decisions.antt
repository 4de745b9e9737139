-- What hosted nodes have externalized at open slots, as a journal tells it.
use Rattle.std.specs.Prelude.{◌==◌, ◌++◌, ℕ, Bool, false, List, [], ◌∷◌, Option, Some, None, filter, nat_lt, not, if◌then◌else◌}
use Rattle.std.specs.List.{list_any}
use Rattle.std.specs.List.Sorted.{IsPermutation, IsSortedBy}
use Rattle.scp_spec.specs.Hosts.{Entry}
use Rattle.scp_spec.specs.Networks.{Step}
use Rattle.scp_spec.specs.Networks.Step.{Closes}
use Rattle.host_journal.specs.Deciding.{ExternalizedValue, decisions_in}

-- the slot that an event closes
abbrev pub closed_by : Step → Option ℕ
closed_by (Closes i) = Some i
closed_by e = None

-- the event of an entry closes this slot
abbrev pub closes : ℕ → Option ℕ → Bool
closes slot (Some i) = slot == i
closes slot None = false

abbrev pub closes_it : ExternalizedValue → Entry → Bool
closes_it d x = closes d.slot (closed_by x.event)

-- all that entries decided at slots that none of those behind closes, in order
abbrev pub standing_in : List Entry → List ExternalizedValue
standing_in [] = []
standing_in (x ∷ xs) = filter (λ d. not (list_any (closes_it d) xs)) (decisions_in x) ++ standing_in xs

-- a lower slot, or the same one and a lesser name
abbrev pub is_lower : ExternalizedValue → ExternalizedValue → Bool
is_lower a b = if a.slot == b.slot then nat_lt a.node b.node else nat_lt a.slot b.slot

-- all that entries decided at slots that are still open, ascending by slot and then by name
abbrev pub IsDecided : List Entry → List ExternalizedValue → Type 0
IsDecided entries ds = IsPermutation (standing_in entries) ds × IsSortedBy is_lower ds

-- ---- as it is found

-- what is left when a slot is closed, or none is
abbrev pub left_after_close : Option ℕ → List ExternalizedValue → List ExternalizedValue
left_after_close (Some i) ds = filter (λ d. not (d.slot == i)) ds
left_after_close None ds = ds

-- what stands after one entry more
abbrev pub decided_next : List ExternalizedValue → Entry → List ExternalizedValue
decided_next ds x = left_after_close (closed_by x.event) ds ++ decisions_in x

-- what stands of decisions after one entry more, if there is one
abbrev pub decided_past : List ExternalizedValue → Option Entry → List ExternalizedValue
decided_past ds None = ds
decided_past ds (Some x) = decided_next ds x

-- the slot that the entry closes, if there is one
abbrev pub closed_at : Option Entry → Option ℕ
closed_at None = None
closed_at (Some x) = closed_by x.event
