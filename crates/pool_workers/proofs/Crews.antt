-- The room of a crew, for fewer workers and fewer networks.
use Rattle.std.proofs.Common.{◌≡◌, ◌≤◌, ◌∙◌, ℕ, List, ap, arith, length, refl, subst, sym, take, vec_capacity}
use Rattle.std.proofs.lemmas.List.{length-take-le}
use Rattle.std.proofs.lemmas.List.Elements.{All-take}
use Rattle.pool_workers.specs.Spares.{AllBlank, IsBlank, IsWorkerRoom}
use Rattle.pool_workers.specs.declared.deal.Room.{Room}
use Rattle.pool_workers.specs.declared.deal.WorkerRoom.{WorkerRoom}

blank_less : {S H P : Type 0} → (n m : ℕ) (rs : List (Room S H P)) → m ≤ n → AllBlank n rs → AllBlank m rs
blank_less n m rs le all k d lt = let b = all k d lt in let c = b.1 in (b.0, omega arith)

pub cut_many : {S H P : Type 0} → (r s : (WorkerRoom S H P)) (many : ℕ) → many ≤ length r.rooms.items → s.rooms.items ≡ take many r.rooms.items → length s.rooms.items ≡ many
cut_many r s many few rooms = ap (λ (x : List (Room _ _ _)). length x) rooms ∙ length-take-le many r.rooms.items few

pub cut_room : {S H P : Type 0} → (r s : (WorkerRoom S H P)) (many networks cells : ℕ) → IsWorkerRoom (length r.rooms.items) networks r → many ≤ length r.rooms.items → cells ≤ networks
    → s.rooms.items ≡ take many r.rooms.items → s.workers ≡ r.workers → IsWorkerRoom (length s.rooms.items) cells s
cut_room r s many networks cells room few le rooms workers = record {
  many = refl;
  blank = subst (AllBlank cells) (sym rooms) (All-take (IsBlank cells) many r.rooms.items (blank_less networks cells r.rooms.items le room.blank));
  none = ap (λ v. v.items) workers ∙ room.none;
  room = (let l = cut_many r s many few rooms in let c = room.room in let w = ap (λ v. vec_capacity v) workers in omega arith);
}
