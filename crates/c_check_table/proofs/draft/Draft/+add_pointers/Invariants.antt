use Rattle.c_check_table.proofs.draft.Draft.+add_pointers.Given as goal

abbrev pub decreases-add_pointers : goal.decreases-add_pointers
decreases-add_pointers l = l.stars
