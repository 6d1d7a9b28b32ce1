-- The texts of the generated files that the number doesn't change, line by line.
use Rattle.std.specs.Prelude.{ℕ, List, [], ◌∷◌, ◌++◌, codes}

-- each line ends with a line feed
abbrev pub lines_text : List (List ℕ) → List ℕ
lines_text [] = []
lines_text (line ∷ lines) = line ++ 10 ∷ lines_text lines

-- the plan: one server, and one update of it
unfoldable pub plan_text : List ℕ
plan_text = lines_text (
    codes "schedule = \"s\""
    ∷ codes "[[server]]"
    ∷ codes "name = \"store\""
    ∷ codes "number = 1"
    ∷ codes "source = \"a.c\""
    ∷ codes "[[update]]"
    ∷ codes "name = \"up\""
    ∷ codes "server = \"store\""
    ∷ codes "from = 1"
    ∷ codes "to = 2"
    ∷ codes "source = \"b.c\""
    ∷ [])

-- the first line of the old program, and of the new one
unfoldable pub old_cell : List ℕ
old_cell = lines_text (codes "struct cell { int key; int hits; struct cell *next; };" ∷ [])

unfoldable pub new_cell : List ℕ
new_cell = lines_text (codes "struct cell { struct cell *next; long long hits; int key; };" ∷ [])

-- both programs behind their first line: a table of cells by key, which counts how often each key came
unfoldable pub program : List ℕ
program = lines_text (
    codes "struct cell *heads[64];"
    ∷ codes "int total;"
    ∷ codes "void init(void) { }"
    ∷ codes "void on_message(void) {"
    ∷ codes "  int k = m_in.arg[0];"
    ∷ codes "  struct cell *c = heads[k % 64];"
    ∷ codes "  while (c != 0 && c->key != k) { c = c->next; }"
    ∷ codes "  if (c == 0) {"
    ∷ codes "    c = malloc(sizeof(struct cell));"
    ∷ codes "    if (c == 0) { m_out.type = 2; send(m_in.source); return; }"
    ∷ codes "    c->key = k;"
    ∷ codes "    c->next = heads[k % 64];"
    ∷ codes "    heads[k % 64] = c;"
    ∷ codes "    total = total + 1;"
    ∷ codes "  }"
    ∷ codes "  c->hits = c->hits + 1;"
    ∷ codes "  m_out.type = 1;"
    ∷ codes "  m_out.arg[0] = c->hits;"
    ∷ codes "  m_out.arg[1] = total;"
    ∷ codes "  send(m_in.source);"
    ∷ codes "}"
    ∷ [])
