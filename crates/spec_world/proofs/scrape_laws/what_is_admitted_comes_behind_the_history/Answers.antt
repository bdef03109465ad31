use Rattle.spec_world.proofs.Scraping.{admitted_counted, puts_admitted}
use Rattle.spec_world.proofs.scrape_laws.what_is_admitted_comes_behind_the_history.Goals as goal

pub returns-clause-behind : goal.returns-clause-behind
returns-clause-behind c = puts_admitted

pub returns-clause-counted : goal.returns-clause-counted
returns-clause-counted c = admitted_counted
