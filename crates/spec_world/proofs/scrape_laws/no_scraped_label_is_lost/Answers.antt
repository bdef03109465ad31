use Rattle.spec_world.proofs.Kept.{all_labels}
use Rattle.spec_world.proofs.scrape_laws.no_scraped_label_is_lost.Goals as goal

pub returns : goal.returns
returns c = λ target labels t l. all_labels target labels t l
