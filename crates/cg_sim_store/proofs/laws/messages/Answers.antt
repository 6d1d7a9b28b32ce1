use Rattle.cg_sim_store.proofs.Messages.{take_messages, messages_have_bytes}
use Rattle.cg_sim_store.proofs.laws.messages.Goals as goal

pub returns-clause-taken : goal.returns-clause-taken
returns-clause-taken c = take_messages

pub returns-clause-bytes : goal.returns-clause-bytes
returns-clause-bytes c = messages_have_bytes
