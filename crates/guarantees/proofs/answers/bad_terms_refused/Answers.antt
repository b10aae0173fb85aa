use Rattle.guarantees.proofs.Moments.{bad_terms_refused}
use Rattle.guarantees.proofs.answers.bad_terms_refused.Goals as goal

pub returns : goal.returns
returns c = bad_terms_refused
