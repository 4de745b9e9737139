use Rattle.live_host.proofs.Numbers as numbers
use Rattle.live_host.proofs.alike.numbers_stand_in_front.Goals as goal

pub returns : goal.returns
returns c = record { line = numbers.numbers_stand_in_front; lines = numbers.futures_are_alike_but_for_numbers }
