-- What the answers of one place say of the first line.
use Rattle.std.specs.Prelude.{◌≡◌, ◌≢◌, ◌⊎◌, ◌+◌, ℕ, List, [], ◌∷◌, Option}
use Rattle.std.proofs.Common.{inl, inr, refl}
use Rattle.line_script.specs.Script.{Bytes}
use Rattle.live_feed.specs.Served.{LineReply}
use Rattle.live_host.specs.Hosts.{Live, Serves}
use Rattle.live_shards.specs.Parts.{AreOwnAnswered}
use Rattle.live_shards.specs.Parts.AreOwnAnswered.{at_end, not_own, own, stops}

-- it is answered, and the others were
pub record Answered (k : ℕ) (s : Live) (n : ℕ) (line : Option Bytes) (lines : List (Option Bytes)) (places : List ℕ) (answers : List LineReply) (t : Live) : Type 0 where
  pub a : LineReply
  pub more : List LineReply
  pub state : Live
  pub is : answers ≡ a ∷ more
  pub serves : Serves s n line a state
  pub others : AreOwnAnswered k state (n + 1) lines places more t

pub inverted : (k : ℕ) (s t : Live) (n : ℕ) (line : Option Bytes) (lines : List (Option Bytes)) (p : ℕ) (places : List ℕ) (answers : List LineReply)
    → AreOwnAnswered k s n (line ∷ lines) (p ∷ places) answers t
    → ((p ≢ k) × AreOwnAnswered k s (n + 1) lines places answers t)
    ⊎ ((p ≡ k) × ((answers ≡ []) ⊎ Answered k s n line lines places answers t))
inverted k s t n line lines p places answers (own {u} {answers = more} a serves others) =
    inr (refl, inr (record { a = a; more = more; state = u; is = refl; serves = serves; others = others }))
inverted k s t n line lines p places answers (not_own q other others) = inl (other, others)
inverted k s t n line lines p places answers stops = inr (refl, inl refl)

pub ended : (k : ℕ) (s t : Live) (n : ℕ) (answers : List LineReply) → AreOwnAnswered k s n [] [] answers t → (answers ≡ []) × (t ≡ s)
ended k s t n answers at_end = (refl, refl)
