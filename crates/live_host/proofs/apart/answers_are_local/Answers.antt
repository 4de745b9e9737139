use Rattle.live_host.proofs.ApartAnswers as answers
use Rattle.live_host.proofs.apart.answers_are_local.Goals as goal

pub returns : goal.returns
returns c = record { alone = answers.answers_are_local; next_to_others = answers.answers_are_given_next_to_others }
