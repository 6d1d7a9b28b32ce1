use Rattle.machine_tests.proofs.services.objects_end_where_addresses_do.Goals as goal

pub first_wrong-requires-clause-space : goal.first_wrong-requires-clause-space
first_wrong-requires-clause-space g c = c.fresh_at-space.ensures c.in_ok-code.code.types
