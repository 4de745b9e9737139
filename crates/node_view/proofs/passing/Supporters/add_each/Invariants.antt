use Rattle.std.proofs.Common.{◌≡◌, ℕ, ◌<◌, ◌≤◌, ◌/◌, length}
use Rattle.scp_bits.specs.Met.{one_where}
use Rattle.scp_bits.specs.Places.{bit_of}
use Rattle.scp_voting.specs.Questions.{asks}
use Rattle.node_view.specs.Watching.{passes_at}
use Rattle.node_view.proofs.passing.Supporters.add_each.Given as goal

abbrev pub invariant-loop-place : goal.invariant-loop-place
invariant-loop-place g l = record {
  before : (i : ℕ) → i < l.place → bit_of l.places i ≡ one_where (passes_at l.self.rows.now l.self.own_place l.self.own_passes (asks l.self.question.now) i);
  after : (i : ℕ) → l.place ≤ i → bit_of l.places i ≡ 0;
  room : (i : ℕ) → i < length l.self.rows.now.nodes → i / 64 < length l.places;
}
