use Rattle.cg_sim_filter.proofs.FilterRuns.{filters_answer}
use Rattle.cg_sim_filter.proofs.laws.filter_answers.Goals as goal

pub returns : goal.returns
returns c = filters_answer
