use Rattle.machine_tests.proofs.services.sixteen_messages_wait.Goals as goal

pub first_wrong-requires-clause-space : goal.first_wrong-requires-clause-space
first_wrong-requires-clause-space g c = c.fresh-space.ensures.space c.in_ok-code.code.types
