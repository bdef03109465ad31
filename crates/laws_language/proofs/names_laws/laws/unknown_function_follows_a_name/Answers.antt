use Rattle.laws_language.proofs.NamesTold.{unknown}
use Rattle.laws_language.proofs.names_laws.laws.unknown_function_follows_a_name.Goals as goal

pub returns : goal.returns
returns c = unknown
