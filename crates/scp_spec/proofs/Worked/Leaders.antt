-- Leaders, against hashes and leaders that another program computed.
use Rattle.std.proofs.Common.{◌≡◌, ◌+◌, ◌^◌, [], ◌∷◌, map, refl}
use Rattle.scp_spec.specs.Leaders.{hash, leader}
use Rattle.scp_spec.proofs.Worked.Everything.{everything}
use Rattle.scp_spec.proofs.Worked.Letters.{A, B, C, D, two_of_bcd}

pub first_hash_of_B : hash 1 1 1 B ≡ 11722768529460913967
unfolding everything
first_hash_of_B = refl

pub second_hash_of_B : hash 1 2 1 B ≡ 17082774703256615563
unfolding everything
second_hash_of_B = refl

-- at great numbers of slot, round and name
pub hash_at_great_numbers : hash (2 ^ 63 + 5) 2 4294967295 (2 ^ 255 + 17) ≡ 5986881396580832377
unfolding everything
hash_at_great_numbers = refl

-- the leaders of A's first six rounds at slot 1, with two of B, C and D as its slices
pub leaders_of_six_rounds : map (λ r. leader 1 r A two_of_bcd) (1 ∷ 2 ∷ 3 ∷ 4 ∷ 5 ∷ 6 ∷ []) ≡ C ∷ D ∷ B ∷ A ∷ D ∷ B ∷ []
unfolding everything
leaders_of_six_rounds = refl
