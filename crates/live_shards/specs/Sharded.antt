-- The shards of a live host.
use Rattle.std.specs.Prelude.{◌≡◌, ◌+◌, ◌<◌, ℕ, Bool, false, List, [], length, map, slice_index_or, Option}
use Rattle.std.specs.List.{All}
use Rattle.line_script.specs.Script.{Bytes}
use Rattle.live_feed.specs.Reading.{given_of}
use Rattle.live_feed.specs.Served.{AreAnswered, LineReply, reply_of}
use Rattle.live_host.specs.Hosts.{Live, Serves}
use Rattle.live_shards.specs.Parts.{AreOwnAnswered, AreParts, joined}
use Rattle.live_shards.specs.declared.batch.Batch.{Batch}
use Rattle.live_shards.specs.declared.shard.Errand.{Errand}
use Rattle.live_shards.specs.declared.shard.Shard.{Shard}

-- the hosts of shards
abbrev pub hosts_of : List Shard → List Live
hosts_of shards = map (λ s. s.host) shards

-- there is at least one shard, and all are idle; unless one of them was out of memory, they are the parts of one host
pub record AreShards (lost : Bool) (shards : List Shard) : Type 0 where
  pub some : 0 < length shards
  pub idle : All (λ s. s.answers.items ≡ []) shards
  pub parts : lost ≡ false → AreParts (joined (hosts_of shards)).bytes (hosts_of shards)

-- what the shards answered of lines that are not gathered yet
abbrev pub waiting_answers : List Shard → List (List LineReply)
waiting_answers shards = map (λ s. map reply_of s.answers.items) shards

-- a shard of a place answered those of the lines that go there
abbrev pub HasAnsweredItsOwn : Errand → Errand → Type 0
HasAnsweredItsOwn old new =
    AreOwnAnswered old.place old.shard.host (old.batch.count + 1) (map given_of old.batch.lines.now) old.batch.places.now
    (map reply_of new.shard.answers.items) new.shard.host

-- each shard, with its place and these lines
pub record AreErrands (batch : Batch) (shards : List Shard) (errands : List Errand) : Type 0 where
  pub count : length errands ≡ length shards
  pub each : (k : ℕ) (d : Shard) (e : Errand) → k < length shards
      → ((slice_index_or errands k e).shard ≡ slice_index_or shards k d) × ((slice_index_or errands k e).place ≡ k)
      × ((slice_index_or errands k e).batch ≡ batch)

-- each of these numbers is less
abbrev pub AllLess : ℕ → List ℕ → Type 0
AllLess n ks = All (λ k. k < n) ks

-- lines were answered by shards as by one host, until one was not; and if all were, the shards are its parts
abbrev pub AreBatchAnswered : List Shard → ℕ → List (Option Bytes) → List LineReply → List Shard → Type 0
AreBatchAnswered old n lines answers new =
    (t : Live) × AreAnswered Serves (joined (hosts_of old)) n lines answers t
    × (length answers ≡ length lines → (t ≡ joined (hosts_of new)) × AreParts (joined (hosts_of old)).bytes (hosts_of new))

-- lines were answered by a host, until one was not; and if all were, this is left
abbrev pub AreAnsweredUntil : Live → ℕ → List (Option Bytes) → List LineReply → Live → Type 0
AreAnsweredUntil old n lines answers new =
    (t : Live) × AreAnswered Serves old n lines answers t × (length answers ≡ length lines → t ≡ new)
