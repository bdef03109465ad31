use Rattle.spec_world.proofs.Renaming.{first_free}
use Rattle.spec_world.proofs.scrape_laws.a_new_name_is_the_first_free_one.Goals as goal

pub returns : goal.returns
returns c = λ target labels name. first_free target labels name
