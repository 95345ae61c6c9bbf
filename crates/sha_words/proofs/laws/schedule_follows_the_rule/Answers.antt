use Rattle.sha_words.proofs.ScheduleLemmas.{IsSchedule-schedule, schedule-from_IsSchedule}
use Rattle.sha_words.proofs.laws.schedule_follows_the_rule.Goals as goal

pub returns : goal.returns
returns c = λ block words n. (schedule-from_IsSchedule block words n, λ same. rw same (IsSchedule-schedule block n))
