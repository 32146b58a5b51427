use Rattle.tor_words.proofs.ListsRead
use Rattle.tor_words.proofs.as_lists.as_list_law.Goals as goal

pub returns : goal.returns
returns c = ListsRead.as_list_law
