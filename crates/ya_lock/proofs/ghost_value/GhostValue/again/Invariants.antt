use Rattle.ya_lock.proofs.ghost_value.GhostValue.again.Given as goal

abbrev pub ghost-made : goal.ghost-made
ghost-made g a = a.x.now.value
