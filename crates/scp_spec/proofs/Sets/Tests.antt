-- Tests that are joined by "and" or by "or": where one of two is known, and three in another order. `Balloting`,
-- `Crowds`, `Nominating` and `Slices` stand on it.
use Rattle.std.proofs.Common.{◌≡◌, Bool, true, false, ◌&&◌, ◌||◌, refl, sym, ◌∙◌}
use Rattle.std.proofs.lemmas.Bool.{true≢false, false≢true}

pub and_is : (a b : Bool) → a ≡ true → (a && b) ≡ b
and_is true b h = refl
and_is false b h = absurd (false≢true h)

pub first_holds : (a b : Bool) → (a || b) ≡ true → b ≡ false → a ≡ true
first_holds true b h k = refl
first_holds false b h k = absurd (true≢false (sym h ∙ k))

pub and_joined : (a b c : Bool) → (a && (b && c)) ≡ ((a && b) && c)
and_joined true b c = refl
and_joined false b c = refl

pub or_joined : (a b c : Bool) → (a || (b || c)) ≡ ((a || b) || c)
or_joined true b c = refl
or_joined false b c = refl

pub or_past : (a b c : Bool) → (a || (b || c)) ≡ (b || (a || c))
or_past true true c = refl
or_past true false c = refl
or_past false b c = refl
