-- A list that stays the front of another as that one grows.
use Rattle.std.proofs.Common.{◌≡◌, ◌≤◌, ◌++◌, List, length, take, min, ap, sym, ◌∙◌, arith}
use Rattle.std.proofs.lemmas.List.{length-take, take-take, take-append-le}

no_longer : {A : Type 0} (old now : List A) → take (length old) now ≡ old → length old ≤ length now
no_longer old now front =
    let is : min (length old) (length now) ≡ length old = sym (length-take (length old) now) ∙ ap length front in
    omega (arith, is)

pub front_stays : {A : Type 0} (old now more : List A) → take (length old) now ≡ old → take (length old) (now ++ more) ≡ old
front_stays old now more front = take-append-le (length old) now more (no_longer old now front) ∙ front

pub front_through : {A : Type 0} (old now new : List A) → take (length old) now ≡ old → take (length now) new ≡ now → take (length old) new ≡ old
front_through old now new front later =
    sym (take-take (length old) (length now) new (no_longer old now front)) ∙ ap (take (length old)) later ∙ front
