-- When a timer acts, and how far a ballot counter may be raised (this host's profile).
use Rattle.std.specs.Prelude.{ℕ, ◌+◌, min, Bool, false, not, ◌&&◌, ◌==◌, nat_lt, Option, Some, None}

-- rounds and counters have 32 bits
abbrev pub most_counter : ℕ
most_counter = 4294967295

-- A nomination timer is live in its own round, from round 1 on, until a ballot is confirmed as prepared. It is live
-- only if there is a next round.
abbrev pub is_nomination_timer_live : (timer round : ℕ) (confirmed_prepared : Bool) → Bool
is_nomination_timer_live timer round confirmed_prepared =
    (timer == round) && nat_lt 0 timer && not confirmed_prepared && nat_lt timer most_counter

-- there is a ballot, and it has this counter
abbrev pub is_counter : Option ℕ → ℕ → Bool
is_counter None n = false
is_counter (Some counter) n = counter == n

-- A ballot timer is live at the counter of the ballot for which it was armed, until a value is externalized. It is live
-- only if there is a next counter.
abbrev pub is_ballot_timer_live : (timer armed : ℕ) (counter : Option ℕ) (externalized : Bool) → Bool
is_ballot_timer_live timer armed counter externalized =
    not externalized && (timer == armed) && is_counter counter timer && nat_lt timer most_counter

-- The counters of others raise a ballot's to at most a thousand more than the ballot timers that have fired. They raise
-- it to at most 4,294,967,295. A ballot timer's own step and the other rules may pass the cap.
abbrev pub cap : (ballot_timeouts : ℕ) → ℕ
cap ballot_timeouts = min (1000 + ballot_timeouts) most_counter
