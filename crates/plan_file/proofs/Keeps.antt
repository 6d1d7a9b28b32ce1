-- What the definitions read keeps the forms of plans.
use Rattle.std.proofs.Common.{◌≡◌, ℕ, ℤ, suc, ◌+◌, nat_le, zero, ◌≤◌, Bool, true, false, ◌&&◌, ◌||◌, not, if◌then◌else◌, IsTrue, List, [], ◌∷◌, ◌++◌, length, Option, Some, None, Ok, refl, sym, subst, ap, ◌∙◌, arith, codes}
use Rattle.std.specs.Prelude.{slice_get}
use Rattle.std.specs.Option.{option_map_or}
use Rattle.std.proofs.lemmas.Bool.Decides.{nat_tests}
use Rattle.std.specs.List.{list_all, list_any}
use Rattle.std.specs.Str.{bytes_eq}
use Rattle.std.specs.Cmp.{first_so, second_so}
use Rattle.std.specs.Cmp.Derive.{both_true}
use Rattle.std.proofs.lemmas.List.Folds.{list_all-append}
use Rattle.std.proofs.lemmas.Slice.Eq.{bytes_eq-Decides}
use Rattle.lu_spec.proofs.ThenLemmas.{then_some}
use Rattle.toml.specs.Data.{Data, Items, no_items, item, Members, get_member, as_str, as_bool, as_array, as_table}
use Rattle.plan_file.specs.declared.key.Key.{Key}
use Rattle.plan_file.specs.declared.key.Key.TheVariants as key
use Rattle.plan_file.specs.declared.key.LimitedList.TheVariants as limited
use Rattle.plan_file.specs.declared.plan.Plan.{Plan}
use Rattle.plan_file.specs.declared.plan.Server.{Server}
use Rattle.plan_file.specs.declared.plan.Update.{Update}
use Rattle.plan_file.specs.declared.plan.Handler.{Handler}
use Rattle.plan_file.specs.declared.plan.Rename.{Rename}
use Rattle.plan_file.specs.declared.rename.RenameTable.{RenameTable}
use Rattle.plan_file.specs.declared.rename.RenameTable.TheVariants as rename
use Rattle.plan_file.specs.declared.plan.Dangling.TheVariants as dangling
use Rattle.plan_file.specs.declared.plan.Pointers.TheVariants as pointers
use Rattle.plan_file.specs.declared.update.Target.{Target}
use Rattle.plan_file.specs.declared.update.Step.{Step}
use Rattle.plan_file.specs.declared.settings.Settings.{Settings}
use Rattle.plan_file.specs.Forms.{count_of, is_name, is_file_name, is_filter, text_where, number_between, dangling_of, pointers_of}
use Rattle.plan_file.specs.Lookup.{optional, needed, defaulted, or_field, has_only, table_list, each_onto}
use Rattle.plan_file.specs.Servers.{server_of, server_at, has_server_name, has_server_number, server_words}
use Rattle.plan_file.specs.Renames.{rename_word, rename_key, is_old, is_new, entries_onto, table_onto, tables_onto, all_tables, rename_words, renames_in, renames_of}
use Rattle.plan_file.specs.Handlers.{handler_of, handler_in, handler_at, handlers_of, handler_words}
use Rattle.plan_file.specs.Updates.{target_from, target_of, is_version, has_update_name, step_of, hold_at, hold_of, settings_of, update_of, update_at, update_words, has_renames_in_order}
use Rattle.plan_file.specs.Kept.{EachBehind, IsBetween, KeepsServer, KeepsUpdate, KeepsForms, keeps_rename, keeps_handler}
use Rattle.plan_file.specs.Plans.{servers_of, updates_of}
use Rattle.plan_file.proofs.RenameOrder.{IsOf, AreOf, of_none, of_more, entries-are}
use Rattle.plan_file.proofs.Keeping.{after_step, after_test, at-end, not-true, needed-keeps, defaulted-keeps, optional-keeps, text-keeps, number-keeps, table_list-count, each_onto-length, each_onto-keeps}

name-kept : (ms : Members) (word : List ℕ) (key : Key) (name : List ℕ) → needed ms word key (text_where is_name) ≡ Ok name → IsTrue (is_name name)
name-kept ms word key name e = needed-keeps (λ t. IsTrue (is_name t)) key (text_where is_name) (text-keeps is_name) ms word name e

file-kept : (ms : Members) (word : List ℕ) (key : Key) (name : List ℕ) → needed ms word key (text_where is_file_name) ≡ Ok name → IsTrue (is_file_name name)
file-kept ms word key name e = needed-keeps (λ t. IsTrue (is_file_name t)) key (text_where is_file_name) (text-keeps is_file_name) ms word name e

version-kept : (ms : Members) (word : List ℕ) (key : Key) (version : ℕ) → needed ms word key (number_between 1 1000000) ≡ Ok version → IsBetween 1 1000000 version
version-kept ms word key version e = needed-keeps (IsBetween 1 1000000) key (number_between 1 1000000) (number-keeps 1 1000000) ms word version e

server-keeps : (earlier : List Server) (ms : Members) (s : Server) → server_of earlier ms ≡ Ok s → KeepsServer earlier s
unfolding server_of
server-keeps earlier ms s e =
    after_step (needed ms (codes "name") key.ServerName (text_where is_name)) _ s e (λ name is_name e.
    after_test (not (has_server_name earlier name)) key.ServerName _ s e (λ other_name e.
    after_step (needed ms (codes "number") key.ServerNumber (number_between 1 16)) _ s e (λ number is_number e.
    after_test (not (has_server_number earlier number)) key.ServerNumber _ s e (λ other_number e.
    after_step (needed ms (codes "source") key.ServerSource (text_where is_file_name)) _ s e (λ source is_source e.
    after_step (defaulted ms (codes "version") key.ServerVersion (number_between 1 1000000) 1) _ s e (λ version is_version e.
    after_step (defaulted ms (codes "pointers") key.ServerPointers pointers_of pointers.Narrow) _ s e (λ size _ e.
    after_test (has_only server_words ms) key.ServerUnknown _ s e (λ _ e.
    at-end (KeepsServer earlier) _ s e (record {
      name = name-kept ms (codes "name") key.ServerName name is_name;
      other_name = not-true (has_server_name earlier name) other_name;
      number = needed-keeps (IsBetween 1 16) key.ServerNumber (number_between 1 16) (number-keeps 1 16) ms (codes "number") number is_number;
      other_number = not-true (has_server_number earlier number) other_number;
      source = file-kept ms (codes "source") key.ServerSource source is_source;
      version = defaulted-keeps (IsBetween 1 1000000) key.ServerVersion (number_between 1 1000000) (number-keeps 1 1000000) ms (codes "version") 1 version
          (record { least = omega arith; most = omega arith }) is_version;
    })))))))))

item-server-keeps : (earlier : List Server) (d : Data) (s : Server) → server_at earlier d ≡ Ok s → KeepsServer earlier s
item-server-keeps earlier d s e = after_step (or_field key.Server (as_table d)) (server_of earlier) s e (λ ms _ e. server-keeps earlier ms s e)

-- the server of a name has the place and the version that its target says
record IsTarget (servers : List Server) (from : ℕ) (t : Target) : Type 0 where
  own : Server
  place : ℕ
  at : slice_get servers place ≡ Some own
  server : t.server ≡ from + place
  version : t.version ≡ own.version

target_step : (test : Bool) (from : ℕ) (s : Server) (ss : List Server) (t : Target) (rest : Option Target)
    → (rest ≡ Some t → IsTarget ss (from + 1) t)
    → (if test then Some (record { server = from; version = s.version }) else rest) ≡ Some t → IsTarget (s ∷ ss) from t
target_step true from s ss t rest ih e =
    let same : record { server = from; version = s.version } ≡ t = cc in
    record {
      own = s;
      place = 0;
      at = refl;
      server = (let here = ap (λ (t : Target). t.server) same in omega arith);
      version = ap (λ (t : Target). t.version) (sym same);
    }
target_step false from s ss t rest ih e =
    let h = ih e in
    record { own = h.own; place = suc h.place; at = h.at; server = (let there = h.server in omega arith); version = h.version }

target-is : (from : ℕ) (servers : List Server) (name : List ℕ) (t : Target) → target_from from servers name ≡ Some t → IsTarget servers from t
target-is from [] name t e = absurd (cc)
target-is from (s ∷ ss) name t e = target_step (bytes_eq s.name name) from s ss t (target_from (from + 1) ss name) (target-is (from + 1) ss name t) e

named-target : (servers : List Server) (d : Data) (t : Target) → target_of servers d ≡ Some t → IsTarget servers 0 t
named-target servers d t e = let a = then_some (as_str d) (target_from 0 servers) t e in target-is 0 servers a.0 t a.2

-- which step an update is
record KeepsStep (servers : List Server) (earlier : List Update) (u : Step) : Type 0 where
  name : IsTrue (is_name u.name)
  other_name : has_update_name earlier u.name ≡ false
  own : Server
  server : slice_get servers u.server ≡ Some own
  from : IsBetween 1 1000000 u.from
  reached : is_version (record { server = u.server; version = own.version }) earlier u.from ≡ true
  to : IsBetween 1 1000000 u.to
  other_version : is_version (record { server = u.server; version = own.version }) earlier u.to ≡ false
  source : IsTrue (is_file_name u.source)

own-target : (servers : List Server) (ms : Members) (t : Target) → needed ms (codes "server") key.UpdateServer (target_of servers) ≡ Ok t → IsTarget servers 0 t
own-target servers ms t e = needed-keeps (IsTarget servers 0) key.UpdateServer (target_of servers) (named-target servers) ms (codes "server") t e

-- the target as the update and its server show it
shown : (servers : List Server) (t : Target) (target : IsTarget servers 0 t) → t ≡ record { server = t.server; version = target.own.version }
shown servers t target = ap (λ v. record { server = t.server; version = v }) target.version

target-at : (servers : List Server) (t : Target) (target : IsTarget servers 0 t) → slice_get servers t.server ≡ Some target.own
target-at servers t target =
    let here : target.place ≡ t.server = (let there = target.server in omega arith) in
    subst (λ i. slice_get servers i ≡ Some target.own) here target.at

step-keeps : (servers : List Server) (earlier : List Update) (ms : Members) (u : Step) → step_of servers earlier ms ≡ Ok u → KeepsStep servers earlier u
unfolding step_of
step-keeps servers earlier ms u e =
    after_step (needed ms (codes "name") key.UpdateName (text_where is_name)) _ u e (λ name is_name e.
    after_test (not (has_update_name earlier name)) key.UpdateName _ u e (λ other_name e.
    after_step (needed ms (codes "server") key.UpdateServer (target_of servers)) _ u e (λ target is_target e.
    after_step (needed ms (codes "from") key.UpdateFrom (number_between 1 1000000)) _ u e (λ from is_from e.
    after_test (is_version target earlier from) key.UpdateFrom _ u e (λ reached e.
    after_step (needed ms (codes "to") key.UpdateTo (number_between 1 1000000)) _ u e (λ to is_to e.
    after_test (not (is_version target earlier to)) key.UpdateTo _ u e (λ other_version e.
    after_step (needed ms (codes "source") key.UpdateSource (text_where is_file_name)) _ u e (λ source is_source e.
    after_step (defaulted ms (codes "pointers") key.UpdatePointers pointers_of pointers.Narrow) _ u e (λ size _ e.
    let own = own-target servers ms target is_target in
    at-end (KeepsStep servers earlier) _ u e (record {
      name = name-kept ms (codes "name") key.UpdateName name is_name;
      other_name = not-true (has_update_name earlier name) other_name;
      own = own.own;
      server = target-at servers target own;
      from = version-kept ms (codes "from") key.UpdateFrom from is_from;
      reached = ap (λ t. is_version t earlier from) (sym (shown servers target own)) ∙ reached;
      to = version-kept ms (codes "to") key.UpdateTo to is_to;
      other_version = ap (λ t. is_version t earlier to) (sym (shown servers target own)) ∙ not-true (is_version target earlier to) other_version;
      source = file-kept ms (codes "source") key.UpdateSource source is_source;
    }))))))))))

few_held : (ds : Items) (hold : List ℤ) → nat_le (count_of ds) 64 ≡ true → length hold ≡ 0 + count_of ds → length hold ≤ 64
few_held ds hold few long = grind (arith, nat_tests)

hold-keeps : (o : Option Data) (hold : List ℤ) → hold_of o ≡ Ok hold → length hold ≤ 64
hold-keeps None hold e = let none : [] ≡ hold = cc in let l = ap length none in omega arith
hold-keeps (Some d) hold e =
    after_step (or_field key.UpdateHold (as_array d)) _ hold e (λ ds _ e.
    after_test (nat_le (count_of ds) 64) key.UpdateHold _ hold e (λ few e. few_held ds hold few (each_onto-length hold_at [] ds hold e)))

optional_name : (after : Option (List ℕ)) → ((name : List ℕ) → after ≡ Some name → IsTrue (is_name name)) → IsTrue (option_map_or is_name after true)
optional_name None keeps = refl
optional_name (Some name) keeps = keeps name refl

-- how an update goes
record KeepsSettings (s : Settings) : Type 0 where
  filter : IsTrue (is_filter s.filter)
  hold : length s.hold ≤ 64
  tries : IsBetween 1 1000 s.tries
  after : IsTrue (option_map_or is_name s.after true)

settings-keep : (ms : Members) (s : Settings) → settings_of ms ≡ Ok s → KeepsSettings s
unfolding settings_of
settings-keep ms s e =
    after_step (defaulted ms (codes "filter") key.UpdateFilter (text_where is_filter) (codes "1")) _ s e (λ filter is_filter_ e.
    after_step (hold_of (get_member (codes "hold") ms)) _ s e (λ hold is_hold e.
    after_step (defaulted ms (codes "tries") key.UpdateTries (number_between 1 1000) 16) _ s e (λ tries is_tries e.
    after_step (defaulted ms (codes "dangling") key.UpdateDangling dangling_of dangling.Refuse) _ s e (λ rule _ e.
    after_step (defaulted ms (codes "gated") key.UpdateGated as_bool false) _ s e (λ gated _ e.
    after_step (optional ms (codes "after") key.UpdateAfter (text_where is_name)) _ s e (λ after is_after e.
    at-end KeepsSettings _ s e (record {
      filter = defaulted-keeps (λ t. IsTrue (is_filter t)) key.UpdateFilter (text_where is_filter) (text-keeps is_filter) ms (codes "filter") (codes "1") filter refl is_filter_;
      hold = hold-keeps (get_member (codes "hold") ms) hold is_hold;
      tries = defaulted-keeps (IsBetween 1 1000) key.UpdateTries (number_between 1 1000) (number-keeps 1 1000) ms (codes "tries") 16 tries
          (record { least = omega arith; most = omega arith }) is_tries;
      after = optional_name after (λ name is. optional-keeps (λ t. IsTrue (is_name t)) key.UpdateAfter (text_where is_name) (text-keeps is_name) ms (codes "after") name (is_after ∙ ap Ok is));
    })))))))

-- the names of renames have the forms of their tables
any_1 : (a b : Bool) → a ≡ true → (a || b) ≡ true
any_1 a b e = ap (λ r. r || b) e

any_step : (a b : Bool) → b ≡ true → (a || b) ≡ true
any_step true b e = refl
any_step false b e = e

any-table : (p : RenameTable → Bool) (kind : RenameTable) → p kind ≡ true → list_any p all_tables ≡ true
any-table p rename.Global e = any_1 (p rename.Global) _ e
any-table p rename.Struct e = any_step (p rename.Global) _ (any_1 (p rename.Struct) _ e)
any-table p rename.Field e = any_step (p rename.Global) _ (any_step (p rename.Struct) _ (any_1 (p rename.Field) _ e))
any-table p rename.Union e = any_step (p rename.Global) _ (any_step (p rename.Struct) _ (any_step (p rename.Field) _ (any_1 (p rename.Union) _ e)))
any-table p rename.Member e =
    any_step (p rename.Global) _ (any_step (p rename.Struct) _ (any_step (p rename.Field) _ (any_step (p rename.Union) _ (any_1 (p rename.Member) _ e))))
any-table p rename.Function e =
    any_step (p rename.Global) _ (any_step (p rename.Struct) _ (any_step (p rename.Field) _ (any_step (p rename.Union) _
    (any_step (p rename.Member) _ (any_1 (p rename.Function) _ e)))))
any-table p rename.Site e =
    any_step (p rename.Global) _ (any_step (p rename.Struct) _ (any_step (p rename.Field) _ (any_step (p rename.Union) _
    (any_step (p rename.Member) _ (any_step (p rename.Function) _ (any_1 (p rename.Site) _ e))))))

rename-keeps : (kind : RenameTable) (k : List ℕ) (r : Rename) → IsOf kind k r → keeps_rename r ≡ true
rename-keeps kind k r of =
    any-table (λ t. bytes_eq r.table (rename_word t) && is_old t r.old && is_new t r.new) kind
    (both_true (both_true ((bytes_eq-Decides r.table (rename_word kind)).1 of.table) of.old_form) of.new_form)

are-kept : (kind : RenameTable) (ms : Members) (rs : List Rename) → AreOf kind ms rs → list_all keeps_rename rs ≡ true
are-kept kind _ _ of_none = refl
are-kept kind _ _ (of_more k d ms r rs of rest) = both_true (rename-keeps kind k r of) (are-kept kind ms rs rest)

table-keeps : (kind : RenameTable) (done new : List Rename) (o : Option Data) → list_all keeps_rename done ≡ true → table_onto kind done o ≡ Ok new → list_all keeps_rename new ≡ true
table-keeps kind done new None kept e = let same : done ≡ new = cc in ap (list_all keeps_rename) (sym same) ∙ kept
table-keeps kind done new (Some d) kept e =
    after_step (or_field (rename_key kind) (as_table d)) (entries_onto kind done) new e (λ ms _ e.
    let more = entries-are kind done ms new e in
    ap (list_all keeps_rename) more.1 ∙ list_all-append keeps_rename done more.0 ∙ both_true kept (are-kept kind ms more.0 more.2))

tables-keep : (ms : Members) (done new : List Rename) (tables : List RenameTable) → list_all keeps_rename done ≡ true → tables_onto ms done tables ≡ Ok new → list_all keeps_rename new ≡ true
tables-keep ms done new [] kept e = let same : done ≡ new = cc in ap (list_all keeps_rename) (sym same) ∙ kept
tables-keep ms done new (table ∷ tables) kept e =
    after_step (table_onto table done (get_member (rename_word table) ms)) _ new e (λ more is e.
    tables-keep ms more new tables (table-keeps table done more (get_member (rename_word table) ms) kept is) e)

renames-keep : (o : Option Data) (renames : List Rename) → renames_of o ≡ Ok renames → list_all keeps_rename renames ≡ true
renames-keep None renames e = let same : [] ≡ renames = cc in ap (list_all keeps_rename) (sym same)
renames-keep (Some d) renames e =
    after_step (or_field key.UpdateRename (as_table d)) renames_in renames e (λ ms _ e.
    after_step (tables_onto ms [] all_tables) _ renames e (λ found is e.
    after_test (has_only rename_words ms) key.RenameUnknown (Ok found) renames e (λ _ e.
    at-end (λ rs. list_all keeps_rename rs ≡ true) found renames e (tables-keep ms [] found all_tables refl is))))

handler-keeps : (ms : Members) (h : Handler) → handler_of ms ≡ Ok h → keeps_handler h ≡ true
unfolding handler_of
handler-keeps ms h e =
    after_step (needed ms (codes "struct") key.HandlerStruct (text_where is_name)) _ h e (λ old is_old e.
    after_step (needed ms (codes "old_form") key.HandlerOldForm (text_where is_name)) _ h e (λ form is_form e.
    after_step (needed ms (codes "function") key.HandlerFunction (text_where is_name)) _ h e (λ function is_function e.
    after_test (has_only handler_words ms) key.HandlerUnknown _ h e (λ _ e.
    at-end (λ h. keeps_handler h ≡ true) _ h e (both_true (both_true
    (name-kept ms (codes "struct") key.HandlerStruct old is_old)
    (name-kept ms (codes "old_form") key.HandlerOldForm form is_form))
    (name-kept ms (codes "function") key.HandlerFunction function is_function))))))

item-handler-keeps : (d : Data) (h : Handler) → handler_in d ≡ Ok h → keeps_handler h ≡ true
item-handler-keeps d h e = after_step (or_field key.UpdateHandler (as_table d)) handler_of h e (λ ms _ e. handler-keeps ms h e)

handlers_step : (done : List Handler) (ds : Items) (out : List Handler) → list_all keeps_handler done ≡ true → each_onto handler_at done ds ≡ Ok out → list_all keeps_handler out ≡ true
handlers_step done no_items out kept e = let same : done ≡ out = cc in ap (list_all keeps_handler) (sym same) ∙ kept
handlers_step done (item d ds) out kept e =
    after_step (handler_at done d) (λ h. each_onto handler_at (done ++ h ∷ []) ds) out e (λ h is e.
    handlers_step (done ++ h ∷ []) ds out
    (list_all-append keeps_handler done (h ∷ []) ∙ both_true kept (ap (λ t. t && true) (item-handler-keeps d h is))) e)

record KeepsHandlers (hs : List Handler) : Type 0 where
  few : length hs ≤ 16
  all : IsTrue (list_all keeps_handler hs)

few_handlers : (ds : Items) (hs : List Handler) → IsBetween 0 16 (count_of ds) → length hs ≡ 0 + count_of ds → list_all keeps_handler hs ≡ true → KeepsHandlers hs
few_handlers ds hs count long all = record { few = (let few = count.most in omega arith); all = all }

handlers-keep : (o : Option Data) (hs : List Handler) → handlers_of o ≡ Ok hs → KeepsHandlers hs
handlers-keep None hs e = let same : [] ≡ hs = cc in subst KeepsHandlers same (record { few = omega arith; all = refl })
handlers-keep (Some d) hs e =
    after_step (table_list key.UpdateHandler limited.Handlers 0 16 d) (each_onto handler_at []) hs e (λ ds is e.
    few_handlers ds hs (table_list-count key.UpdateHandler limited.Handlers 0 16 d ds is) (each_onto-length handler_at [] ds hs e) (handlers_step [] ds hs refl e))

-- an update keeps all, where its renames are in order
abbrev KeepsOrdered : List Server → List Update → Update → Type 0
KeepsOrdered servers earlier u = has_renames_in_order u ≡ true → KeepsUpdate servers earlier u

update-keeps : (servers : List Server) (earlier : List Update) (ms : Members) (u : Update) → update_of servers earlier ms ≡ Ok u → KeepsOrdered servers earlier u
unfolding update_of
update-keeps servers earlier ms u e =
    after_step (step_of servers earlier ms) _ u e (λ step is_step e.
    after_step (settings_of ms) _ u e (λ settings is_settings e.
    after_step (renames_of (get_member (codes "rename") ms)) _ u e (λ renames is_renames e.
    after_step (handlers_of (get_member (codes "handler") ms)) _ u e (λ handlers is_handlers e.
    after_test (has_only update_words ms) key.UpdateUnknown _ u e (λ _ e.
    let at_step = step-keeps servers earlier ms step is_step in
    let at_settings = settings-keep ms settings is_settings in
    let at_handlers = handlers-keep (get_member (codes "handler") ms) handlers is_handlers in
    at-end (KeepsOrdered servers earlier) _ u e (λ order. record {
      name = at_step.name;
      other_name = at_step.other_name;
      own = at_step.own;
      server = at_step.server;
      from = at_step.from;
      reached = at_step.reached;
      to = at_step.to;
      other_version = at_step.other_version;
      source = at_step.source;
      filter = at_settings.filter;
      hold = at_settings.hold;
      tries = at_settings.tries;
      after = at_settings.after;
      renames = renames-keep (get_member (codes "rename") ms) renames is_renames;
      ordered = order;
      few_handlers = at_handlers.few;
      handlers = at_handlers.all;
    }))))))

item-update-keeps : (servers : List Server) (earlier : List Update) (d : Data) (u : Update) → update_at servers earlier d ≡ Ok u → KeepsOrdered servers earlier u
item-update-keeps servers earlier d u e = after_step (or_field key.Update (as_table d)) (update_of servers earlier) u e (λ ms _ e. update-keeps servers earlier ms u e)

all-at : {A : Type 0} (p : A → Bool) (xs : List A) (i : ℕ) (x : A) → list_all p xs ≡ true → slice_get xs i ≡ Some x → p x ≡ true
all-at p [] i x all e = absurd (cc)
all-at p (y ∷ ys) zero x all e = let same : y ≡ x = cc in ap p (sym same) ∙ first_so (p y) (list_all p ys) all
all-at p (y ∷ ys) (suc i) x all e = all-at p ys i x (second_so (p y) (list_all p ys) all) e

none-behind : {T : Type 0} (P : List T → T → Type 0) → EachBehind P []
none-behind P i t e = absurd (cc)

servers-keep : (o : Option Data) (servers : List Server) → servers_of o ≡ Ok servers → EachBehind KeepsServer servers
servers-keep None servers e = absurd (cc)
servers-keep (Some d) servers e =
    after_step (table_list key.Server limited.Servers 1 16 d) (each_onto server_at []) servers e (λ ds _ e.
    each_onto-keeps KeepsServer server_at item-server-keeps [] ds servers (none-behind KeepsServer) e)

updates-keep : (servers : List Server) (o : Option Data) (updates : List Update) → updates_of servers o ≡ Ok updates → list_all has_renames_in_order updates ≡ true
    → EachBehind (KeepsUpdate servers) updates
updates-keep servers None updates e order = let same : [] ≡ updates = cc in subst (EachBehind (KeepsUpdate servers)) same (none-behind (KeepsUpdate servers))
updates-keep servers (Some d) updates e order =
    λ i u at.
    after_step (table_list key.Update limited.Updates 0 64 d) (each_onto (update_at servers) []) updates e (λ ds _ e.
    each_onto-keeps (KeepsOrdered servers) (update_at servers) (item-update-keeps servers) [] ds updates (none-behind (KeepsOrdered servers)) e i u at
    (all-at has_renames_in_order updates i u order at))

pub plan-keeps : (ms : Members) (plan : Plan) → needed ms (codes "schedule") key.Schedule (text_where is_file_name) ≡ Ok plan.schedule
    → servers_of (get_member (codes "server") ms) ≡ Ok plan.server → updates_of plan.server (get_member (codes "update") ms) ≡ Ok plan.update
    → 1 ≤ length plan.server → length plan.server ≤ 16 → length plan.update ≤ 64 → list_all has_renames_in_order plan.update ≡ true → KeepsForms plan
plan-keeps ms plan schedule servers updates some few_servers few_updates order = record {
  schedule = file-kept ms (codes "schedule") key.Schedule plan.schedule schedule;
  some = some;
  few_servers = few_servers;
  servers = servers-keep (get_member (codes "server") ms) plan.server servers;
  few_updates = few_updates;
  updates = updates-keep plan.server (get_member (codes "update") ms) plan.update updates order;
}
